use Rattle.solve.proofs.Boards.{rows_count}
use Rattle.solve.proofs.zero_rows.Goals as goal

pub returns : goal.returns
returns c =
    let many = c.zero_rows.ensures.counted in
    record { rows = many; board = λ ws R T tr pv. rows_count _ ws R T _ tr pv _ many }
