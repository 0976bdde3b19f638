-- The claim on short scripts, computed: calls that take many deliveries, and for four of the hypotheses a call where that one
-- alone does not hold. Server 0 is the leader everywhere.
use Rattle.std.specs.Prelude.{◌≡◌, refl, List, [], ◌∷◌, ◌++◌, Bool, true, false, ℕ, zero, suc, ◌-◌, ◌≤◌, replicate}
use Rattle.std.proofs.Common.{ap, arith}
use mathlib.Core.List.Memᴰ
use Rattle.std.proofs.Math.Option.{none, some}
use Rattle.model.specs.Measures.{max_accepted}
use Rattle.model.specs.Calls.{Result, done, notdone, unknown, Answer}
use Rattle.model.specs.Lines.{State, initial_state, Outcome, refusal, printed}
use Rattle.model.specs.Text.{bytes}
use Rattle.model.specs.Run.{state_after, outcomes, lines_of, run}
use Rattle.model.specs.Compute.{computing}
use Rattle.quiet.specs.Statement.{Answered, Ends}
use Rattle.quiet.specs.Tests.{tests, testing}

-- so many lines `deliver 0`
unfoldable delivered : ℕ → List ℕ
delivered zero = []
delivered (suc k) = bytes "deliver 0\n" ++ delivered k

-- the hypotheses after a script, tested in their order
abbrev tested_in : State → List Bool
tested_in s = elim s.cluster [ none ↦ [] | some c ↦ tests c 0 ]

abbrev tested : List ℕ → List Bool
tested input = tested_in (state_after initial_state (lines_of input))

abbrev all : List Bool
all = true ∷ true ∷ true ∷ true ∷ true ∷ true ∷ []

-- ---- quiet calls

-- server 0 of three leads, elected by all
abbrev three : List ℕ
three = bytes "cluster 3 1\nelect 0\n" ++ delivered 4

three_quiet : tested three ≡ all
unfolding computing testing delivered
three_quiet = refl

-- an unrecovered bucket: 16 deliveries; the next line finds no message
sixteen : run (three ++ (bytes "set 0 61 01\n" ++ delivered 17)) ≡ bytes "1 done 4\nline 24 refused 7\nmessages 20 0 20 0 0\n"
unfolding computing delivered
sixteen = refl

-- two of five servers have stopped: 24 deliveries, 8 of them to the stopped, where they count as lost
abbrev two_of_five_stopped : List ℕ
two_of_five_stopped = bytes "cluster 5 1\nelect 0\n" ++ (delivered 8 ++ bytes "stop 3\nstop 4\n")

two_stopped_quiet : tested two_of_five_stopped ≡ all
unfolding computing testing delivered
two_stopped_quiet = refl

two_stopped : run (two_of_five_stopped ++ (bytes "set 0 61 01\n" ++ delivered 25)) ≡ bytes "1 done 4\nline 38 refused 7\nmessages 32 0 24 8 0\n"
unfolding computing delivered
two_stopped = refl

-- server 2 has voted higher, and has stopped: 12 deliveries
abbrev stopped_after_its_vote : List ℕ
stopped_after_its_vote = three ++ bytes "elect 2\nlose 0\nlose 0\nstop 2\n"

stopped_vote_quiet : tested stopped_after_its_vote ≡ all
unfolding computing testing delivered
stopped_vote_quiet = refl

stopped_vote : run (stopped_after_its_vote ++ (bytes "set 0 61 01\n" ++ delivered 13)) ≡ bytes "1 done 4\nline 24 refused 7\nmessages 18 0 12 6 0\n"
unfolding computing delivered
stopped_vote = refl

-- ---- one of the hypotheses does not hold

-- both others have voted higher: `notdone`
abbrev voted_higher : List ℕ
voted_higher = bytes "elect 1\nelect 2\nlose 0\nlose 0\nlose 0\nlose 0\n"

higher_votes_tested : tested (three ++ voted_higher) ≡ true ∷ false ∷ true ∷ true ∷ true ∷ true ∷ []
unfolding computing testing delivered
higher_votes_tested = refl

higher_votes : run (three ++ (voted_higher ++ (bytes "get 0 61\n" ++ delivered 4))) ≡ bytes "1 notdone 1\nmessages 12 0 8 4 0\n"
unfolding computing delivered
higher_votes = refl

-- the same on a recovered bucket, where a set writes at once: `unknown`
abbrev recovered_and_voted_higher : List ℕ
recovered_and_voted_higher = three ++ (bytes "get 0 61\n" ++ (delivered 12 ++ voted_higher))

higher_votes_on_a_write_tested : tested recovered_and_voted_higher ≡ true ∷ false ∷ true ∷ true ∷ true ∷ true ∷ []
unfolding computing testing delivered
higher_votes_on_a_write_tested = refl

higher_votes_on_a_write : run (recovered_and_voted_higher ++ (bytes "set 0 61 01\n" ++ delivered 4)) ≡ bytes "1 value 3 -\n2 unknown 1\nmessages 24 0 20 4 0\n"
unfolding computing delivered
higher_votes_on_a_write = refl

-- no majority runs: the list is empty, and the call has no result
abbrev both_stopped : List ℕ
both_stopped = three ++ bytes "stop 1\nstop 2\n"

no_majority_tested : tested both_stopped ≡ true ∷ true ∷ false ∷ true ∷ true ∷ true ∷ []
unfolding computing testing delivered
no_majority_tested = refl

no_majority : run (both_stopped ++ (bytes "get 0 61\n" ++ delivered 2)) ≡ bytes "messages 6 0 4 2 0\n"
unfolding computing delivered
no_majority = refl

-- a message of the election is still in flight, among two servers: after 8 deliveries the list is not empty
abbrev one_vote_twice : List ℕ
one_vote_twice = bytes "cluster 2 1\nelect 0\ndeliver 0\ncopy 0\n"

one_in_flight_tested : tested one_vote_twice ≡ true ∷ true ∷ true ∷ false ∷ true ∷ true ∷ []
unfolding computing testing
one_in_flight_tested = refl

one_in_flight : run (one_vote_twice ++ (bytes "set 0 61 01\n" ++ delivered 8)) ≡ bytes "messages 10 1 10 0 1\n"
unfolding computing delivered
one_in_flight = refl

-- the state with `count` lines left
abbrev leaving : ℕ → State → State
leaving count s =
    elim s.cluster [
      | none ↦ s
      | some c ↦
          record {
            cluster = some (record { servers = c.servers; buckets = c.buckets; messages = c.messages; accepted = max_accepted - count; calls = c.calls });
            tally = s.tally;
          }
    ]

-- among two servers, with so many lines left: the hypotheses, and a call with eight deliveries
abbrev near_the_end : ℕ → State
near_the_end count = leaving count (state_after initial_state (lines_of (bytes "cluster 2 1\nelect 0\ndeliver 0\ndeliver 0\n")))

abbrev last_lines : ℕ → List Outcome
last_lines count = outcomes (near_the_end count) (bytes "set 0 61 01" ∷ replicate 8 (bytes "deliver 0"))

nine_lines_tested : tested_in (near_the_end 9) ≡ all
unfolding computing testing
nine_lines_tested = refl

nine_lines_left : last_lines 9 ≡ replicate 8 (printed []) ++ (printed (record { call = 1; result = done; rounds = 4 } ∷ []) ∷ [])
unfolding computing
nine_lines_left = refl

-- one line fewer: the last delivery is refused with 5
eight_lines_tested : tested_in (near_the_end 8) ≡ true ∷ true ∷ true ∷ true ∷ true ∷ false ∷ []
unfolding computing testing
eight_lines_tested = refl

eight_lines_left : last_lines 8 ≡ replicate 8 (printed []) ++ (refusal 5 ∷ [])
unfolding computing
eight_lines_left = refl

-- ---- what the conclusion says

-- the figure in numbers, for three servers
at_most_sixteen : {i : ℕ} {out : List Answer} {s : State} (h : Ends 3 i out s) → h.count ≤ 16
at_most_sixteen h = omega (arith, h.few)

-- where there is one answer, `Answered` is about that one
alone : (i k : ℕ) (r : Result) (h : Answered i (record { call = i; result = r; rounds = k } ∷ [])) → h.answer.result ≡ r
alone i k r h = ap (λ x. x.result) (Memᴰ.eq_of_singleton h.among)

notdone_is_none : (i k : ℕ) → Answered i (record { call = i; result = notdone; rounds = k } ∷ []) → ⊥
notdone_is_none i k h = h.not_notdone (alone i k notdone h)

unknown_is_none : (i k : ℕ) → Answered i (record { call = i; result = unknown; rounds = k } ∷ []) → ⊥
unknown_is_none i k h = h.not_unknown (alone i k unknown h)
