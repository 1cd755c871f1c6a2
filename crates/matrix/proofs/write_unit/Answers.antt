use Rattle.std.proofs.Common.{ap, ◌∙◌}
use Rattle.gf2.specs.Rows.{differ, only}
use Rattle.matrix.proofs.write_unit.Goals as goal

pub returns : goal.returns
returns c = record {
  here = λ b. c.flip_cell.ensures.here b ∙ ap (λ x. differ x (only c.args.j b)) (c.clear_row.ensures.here b);
  rest = record {
    before = c.flip_cell.ensures.rest.before ∙ c.clear_row.ensures.rest.before;
    after = c.flip_cell.ensures.rest.after ∙ c.clear_row.ensures.rest.after;
  };
}
