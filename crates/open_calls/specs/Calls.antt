-- What the rules of calls make of a call and of a version, number by number. The laws in proofs/CallLaws.antt tie each to
-- the definition of the same name in crates/model. A number that is raised wraps at 2 ^ 32.
use Rattle.std.specs.Prelude.{ℕ, ◌+◌, ◌%◌, ◌^◌, Bool, true, false, ◌==◌}
use Rattle.server.specs.declared.Version.{Version}
use Rattle.server.specs.declared.Call.{Call}
use Rattle.server.specs.declared.Answer.{Answer}

unfoldable pub sent_by : Bool → ℕ → ℕ
sent_by own sent = elim own [ true ↦ 1 | false ↦ sent ]

abbrev pub call_with : Call → ℕ → ℕ → Call
call_with c rounds sent = record { kind = c.kind; number = c.number; rounds = rounds; sent = sent }

abbrev pub one_more_of : Bool → Call → Call
one_more_of own c = call_with c ((c.rounds + 1) % 2 ^ 32) (sent_by own c.sent)

-- 7 is `unknown`, 6 `notdone`
unfoldable pub ended_as : ℕ → ℕ
ended_as sent = elim (sent == 1) [ true ↦ 7 | false ↦ 6 ]

abbrev pub answer_with : Call → ℕ → Answer
answer_with c result = record { call = c.number; result = result; rounds = c.rounds }

abbrev pub ended_of : Call → Answer
ended_of c = answer_with c (ended_as c.sent)

abbrev pub version_of : ℕ → ℕ → Version
version_of e k = record { election = e; counter = k }

abbrev pub next_version_of : ℕ → Version → Version
next_version_of number v = version_of number ((v.counter + 1) % 2 ^ 32)
