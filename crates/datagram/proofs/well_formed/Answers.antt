-- `well_formed` meets its contract: kind by kind.
use mathlib.Core.Path.{sym, ◌∙◌}
use native.Mathlib.Omega.{arith}
use borrow.Author.Tests.{ne_eqb}
use Rattle.datagram.specs.Answers.{meant}
use Rattle.fields.proofs.Rules.{below_one, above_top, unaddressed, unknown_kind, vote_rules, plain_rules, read_rules, write_rules, other_election}
use borrow.Author.Rules.{rules}
use Rattle.datagram.proofs.well_formed.Goals as goal

pub returns-then-not-addressed : goal.returns-then-not-addressed
unfolding meant
returns-then-not-addressed c = unaddressed (meant c.args.datagram) (sym c.if-not-addressed.ensures)

pub returns-then-datagram : goal.returns-then-datagram
unfolding meant
returns-then-datagram c =
    c.content_agrees.ensures ∙ write_rules (meant c.args.datagram) (sym c.if-not-addressed.ensures) (omega arith) (omega arith) (search rules) c.in-4.is c.if-datagram.true

pub returns-else-datagram : goal.returns-else-datagram
unfolding meant
returns-else-datagram c =
    ne_eqb _ _ c.if-datagram.false ∙ other_election (meant c.args.datagram) (sym c.if-not-addressed.ensures) (omega arith) (omega arith) (search rules) c.in-4.is c.if-datagram.false

pub returns-in-8 : goal.returns-in-8
unfolding meant
returns-in-8 c =
    c.content_agrees-in-8.ensures ∙ read_rules (meant c.args.datagram) (sym c.if-not-addressed.ensures) (omega arith) (omega arith) (search rules) c.in-8.is

pub returns-in-1-to-3 : goal.returns-in-1-to-3
unfolding meant
returns-in-1-to-3 c =
    c.has_no_round.ensures ∙ vote_rules (meant c.args.datagram) (sym c.if-not-addressed.ensures) (omega arith) (omega arith)

pub returns-in_default : goal.returns-in_default
unfolding meant
returns-in_default c =
    unknown_kind (meant c.args.datagram) (sym c.if-not-addressed.ensures) (below_one 9 c.args.datagram.kind (omega arith))

pub returns-in_default-2 : goal.returns-in_default-2
unfolding meant
returns-in_default-2 c =
    unknown_kind (meant c.args.datagram) (sym c.if-not-addressed.ensures) (above_top 9 c.args.datagram.kind (omega arith))
