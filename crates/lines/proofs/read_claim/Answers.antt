use Rattle.std.proofs.Common.{◌≡◌, rules, codes}
use Rattle.lines.specs.Readers.{further}
use Rattle.lines.specs.Lines.{silent, one, two, set, claim_of}
use Rattle.lines.specs.declared.Claim.TheVariants as claim
use Rattle.lines.proofs.Steps.{furthest_none}
use Rattle.lines.proofs.Forms.{one_read, two_read, set_read, either_way}
use Rattle.lines.proofs.read_claim.Goals as goal

pub returns-then-says_nothing : goal.returns-then-says_nothing
unfolding claim_of silent further
returns-then-says_nothing c = rw (← c.if-says_nothing.ensures) (either_way _ _)

pub returns-then-not-is_served : goal.returns-then-not-is_served
unfolding claim_of silent further
returns-then-not-is_served c =
    let lamps : c.map.result ≡ one (codes "lamps ") claim.Lamps 0 c.args.line.now = one_read _ _ _ claim.Lamps _ (c.after.ensures _ (λ bs at r same says. search rules)) c.map.ensures.cases (λ n y p. search rules) in
    let wire : c.map-2.result ≡ two (codes "wire ") claim.Wire 0 c.args.line.now = two_read _ _ _ claim.Wire _ (c.after-2.ensures _ (λ bs at r same says. search rules)) c.map-2.ensures.cases (λ n y p. search rules) in
    let turn : c.map-3.result ≡ one (codes "turn ") claim.Turn 0 c.args.line.now = one_read _ _ _ claim.Turn _ (c.after-3.ensures _ (λ bs at r same says. search rules)) c.map-3.ensures.cases (λ n y p. search rules) in
    rw (← c.if-says_nothing.ensures, ← c.if-not-is_served.ensures, ← lamps, ← wire, ← turn) c.furthest-board.ensures

pub returns : goal.returns
unfolding claim_of silent further
returns c =
    let lamps : c.map.result ≡ one (codes "lamps ") claim.Lamps 0 c.args.line.now = one_read _ _ _ claim.Lamps _ (c.after.ensures _ (λ bs at r same says. search rules)) c.map.ensures.cases (λ n y p. search rules) in
    let wire : c.map-2.result ≡ two (codes "wire ") claim.Wire 0 c.args.line.now = two_read _ _ _ claim.Wire _ (c.after-2.ensures _ (λ bs at r same says. search rules)) c.map-2.ensures.cases (λ n y p. search rules) in
    let turn : c.map-3.result ≡ one (codes "turn ") claim.Turn 0 c.args.line.now = one_read _ _ _ claim.Turn _ (c.after-3.ensures _ (λ bs at r same says. search rules)) c.map-3.ensures.cases (λ n y p. search rules) in
    let press : c.map-4.result ≡ set c.args.n (codes "press ") claim.Press 0 c.args.line.now = set_read _ _ _ c.args.n claim.Press _ (c.after-4.ensures _ (λ bs at r same says. search rules)) c.map-4.ensures.cases (λ n y p. search rules) in
    let never : c.map-5.result ≡ set c.args.n (codes "never, by ") claim.Never 0 c.args.line.now = set_read _ _ _ c.args.n claim.Never _ (c.after-5.ensures _ (λ bs at r same says. search rules)) c.map-5.ensures.cases (λ n y p. search rules) in
    rw (← c.if-says_nothing.ensures, ← c.if-not-is_served.ensures, ← lamps, ← wire, ← turn, ← press, ← never, ← c.furthest-board.ensures, ← furthest_none c.furthest-board.result) c.furthest.ensures
