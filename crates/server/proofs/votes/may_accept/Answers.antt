-- `votes::may_accept` meets its contract: a number is at least the vote where it is not below it.
use Rattle.std.proofs.Common.{◌≡◌, ℕ, true, false, ltb, leb, arith}
use Rattle.std.proofs.lemmas.Bool.Decides.{nat_tests}
use Rattle.model.specs.Replica.{may_accept}
use Rattle.server.proofs.votes.may_accept.Goals as goal

at_least : (v e : ℕ) → leb v e ≡ elim (ltb e v) [ true ↦ false | false ↦ true ]
at_least v e = grind (arith, nat_tests)

pub returns : goal.returns
unfolding may_accept
returns c = at_least c.args.head.vote c.args.election
