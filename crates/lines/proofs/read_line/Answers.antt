use Rattle.std.proofs.Common.{◌≡◌, Ok, rules, codes}
use Rattle.calls.specs.declared.Call.TheVariants as calls
use Rattle.lines.specs.Readers.{further}
use Rattle.lines.specs.Lines.{silent, alone, one, two, line_of}
use Rattle.lines.specs.declared.Line.TheVariants as line
use Rattle.lines.proofs.Forms.{alone_read, one_read, two_read}
use Rattle.lines.proofs.read_line.Goals as goal

pub returns-then-says_nothing : goal.returns-then-says_nothing
unfolding line_of silent further
returns-then-says_nothing c = rw (← c.if-says_nothing.ensures)

pub returns : goal.returns
unfolding line_of silent further
returns c =
    let lamps : c.map.result ≡ one (codes "lamps ") line.Lamps 0 c.args.line.now = one_read _ _ _ line.Lamps _ (c.after.ensures _ (λ bs at r same says. search rules)) c.map.ensures.cases (λ n y p. search rules) in
    let grid : c.map-2.result ≡ two (codes "grid ") line.Grid 0 c.args.line.now = two_read _ _ _ line.Grid _ (c.after-2.ensures _ (λ bs at r same says. search rules)) c.map-2.ensures.cases (λ n y p. search rules) in
    let wire : c.map-3.result ≡ two (codes "wire ") (λ i j. line.Call (calls.Wire i j)) 0 c.args.line.now = two_read _ _ _ (λ i j. line.Call (calls.Wire i j)) _ (c.after-3.ensures _ (λ bs at r same says. search rules)) c.map-3.ensures.cases (λ n y p. search rules) in
    let turn : c.map-4.result ≡ one (codes "turn ") (λ i. line.Call (calls.Turn i)) 0 c.args.line.now = one_read _ _ _ (λ i. line.Call (calls.Turn i)) _ (c.after-4.ensures _ (λ bs at r same says. search rules)) c.map-4.ensures.cases (λ n y p. search rules) in
    let press : c.map-5.result ≡ one (codes "press ") (λ i. line.Call (calls.Press i)) 0 c.args.line.now = one_read _ _ _ (λ i. line.Call (calls.Press i)) _ (c.after-5.ensures _ (λ bs at r same says. search rules)) c.map-5.ensures.cases (λ n y p. search rules) in
    let lit : c.map-6.result ≡ alone (codes "lit") (line.Call calls.Lit) 0 c.args.line.now = alone_read _ _ _ (line.Call calls.Lit) _ (c.after-6.ensures (λ p. Ok (tt, p)) (λ bs at r same says. search rules)) c.map-6.ensures.cases (λ n y p. search rules) in
    let out : c.map-7.result ≡ alone (codes "out") (line.Call calls.Out) 0 c.args.line.now = alone_read _ _ _ (line.Call calls.Out) _ (c.after-7.ensures (λ p. Ok (tt, p)) (λ bs at r same says. search rules)) c.map-7.ensures.cases (λ n y p. search rules) in
    let ways : c.map-8.result ≡ alone (codes "ways") (line.Call calls.Ways) 0 c.args.line.now = alone_read _ _ _ (line.Call calls.Ways) _ (c.after-8.ensures (λ p. Ok (tt, p)) (λ bs at r same says. search rules)) c.map-8.ensures.cases (λ n y p. search rules) in
    rw (← c.if-says_nothing.ensures, ← lamps, ← grid, ← wire, ← turn, ← press, ← lit, ← out, ← ways) c.furthest.ensures
