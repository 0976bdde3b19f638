-- What the rules of calls make of a call and of a version stands for what the definitions of crates/model make of them.
use Rattle.std.proofs.Common.{◌≡◌, ℕ, ◌+◌, ◌^◌, ◌<◌, Bool, true, false, eqb, List, refl, ap, ◌∙◌, ap₂, mod-eq_of_lt}
use mathlib.Core.Option.{none, some}
use Rattle.entries.specs.Entries.{Entry}
use Rattle.model.specs.Calls as calls
use Rattle.model.specs.Cluster as cluster
use Rattle.model.specs.Cluster.{copy_at}
use Rattle.model.specs.Leader.{one_more, ended, next_version}
use Rattle.server.specs.declared.Version.{Version}
use Rattle.server.specs.declared.Call.{Call}
use Rattle.server.specs.Views.{flag_in, version_in, among, taken_in, call_in, result_in, answer_in}
use Rattle.open_calls.specs.Calls.{sent_by, one_more_of, ended_as, ended_of, next_version_of}

sent_means : (own : Bool) (sent : ℕ) → flag_in (sent_by own sent) ≡ elim own [ true ↦ true | false ↦ flag_in sent ]
unfolding flag_in sent_by
sent_means true sent = refl
sent_means false sent = refl

abbrev made : Call → calls.Words → ℕ → Bool → cluster.Call
made c words rounds sent = record { number = c.number; words = words; rounds = rounds; sent = sent }

pub one_more_means : (own : Bool) (c : Call) (words : calls.Words) → c.rounds + 1 < 2 ^ 32 → call_in (one_more_of own c) words ≡ one_more own (call_in c words)
unfolding call_in one_more
one_more_means own c words low =
    elim (among 5 c.kind) as
    (λ z. elim z [ true ↦ some (taken_in (one_more_of own c) words) | false ↦ none ] ≡ one_more own (elim z [ true ↦ some (taken_in c words) | false ↦ none ]))
    [ true ↦ ap₂ (λ k b. some (made c words k b)) (mod-eq_of_lt low) (sent_means own c.sent) | false ↦ refl ]

ended_result : (sent : ℕ) (v : List ℕ) (t : List Entry) → result_in (ended_as sent) v t ≡ elim (flag_in sent) [ true ↦ calls.unknown | false ↦ calls.notdone ]
unfolding ended_as flag_in result_in
ended_result sent v t =
    elim (eqb sent 1) as (λ b. result_in (elim b [ true ↦ 7 | false ↦ 6 ]) v t ≡ elim b [ true ↦ calls.unknown | false ↦ calls.notdone ]) [ true ↦ refl | false ↦ refl ]

pub ended_means : (c : Call) (words : calls.Words) (v : List ℕ) (t : List Entry) → answer_in (ended_of c) v t ≡ ended (taken_in c words)
unfolding ended
ended_means c words v t = ap (λ r. record { call = c.number; result = r; rounds = c.rounds }) (ended_result c.sent v t)

pub next_version_means : (number b : ℕ) (v : Version) (s : cluster.Server) → v.counter + 1 < 2 ^ 32 → number ≡ s.stored.number → version_in v ≡ (copy_at s.stored b).version → version_in (next_version_of number v) ≡ next_version b s
unfolding next_version
next_version_means number b v s low e h = ap₂ cluster.version e (mod-eq_of_lt low ∙ ap (λ w. w.counter + 1) h)
