-- `servers::plan_elect` meets its contract: the server and its bucket have a place in the arrays.
use Rattle.std.proofs.Common.{sym, ◌∙◌, arith}
use Rattle.plans.proofs.Judging.{inside_room}
use Rattle.plans.proofs.servers.plan_elect.Goals as goal

pub slot_of-requires : goal.slot_of-requires
slot_of-requires c = inside_room _ _ _ c.requires (sym c.inside.ensures ∙ c.if-not-inside.false)

pub load_local-local-requires : goal.load_local-local-requires
load_local-local-requires c =
    let h = inside_room _ _ _ c.requires (sym c.inside.ensures ∙ c.if-not-inside.false) in
    (h.0, omega (arith, h.0, h.1))
