-- `read` meets its contract: kind by kind.
use native.Mathlib.Omega.{arith}
use mathlib.Core.Path.{sym}
use lib.ListN.{get_or}
use borrow.Author.Tests.{eqb-true}
use Rattle.fields.proofs.Parsing.{read_nothing, read_unknown}
use Rattle.fields.proofs.Rules.{below_one, above_top, carries_none}
use Rattle.datagram.proofs.Answering.{carries_either, stands_datagram, stands_too}
use Rattle.datagram.proofs.read.Goals as goal

pub returns-then-is_empty : goal.returns-then-is_empty
returns-then-is_empty c = stands_too stands_datagram (sym (read_nothing c.args.bytes.now (eqb-true _ 0 (sym c.if-is_empty.ensures))))

pub read_full-requires : goal.read_full-requires
read_full-requires c = carries_either (get_or c.args.bytes.now 0 0) c.in-4.is

pub read_plain-requires : goal.read_plain-requires
read_plain-requires c = carries_none (get_or c.args.bytes.now 0 0) (grind arith) (grind arith)

pub returns-in_default : goal.returns-in_default
returns-in_default c =
    stands_too stands_datagram
    (sym (read_unknown c.args.bytes.now (carries_none (get_or c.args.bytes.now 0 0) (omega arith) (omega arith)) (below_one 9 (get_or c.args.bytes.now 0 0) (omega arith))))

pub returns-in_default-2 : goal.returns-in_default-2
returns-in_default-2 c =
    stands_too stands_datagram
    (sym (read_unknown c.args.bytes.now (carries_none (get_or c.args.bytes.now 0 0) (grind arith) (grind arith)) (above_top 9 (get_or c.args.bytes.now 0 0) (grind arith))))
