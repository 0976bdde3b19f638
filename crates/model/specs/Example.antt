-- The example script, the edges (RULES, Rows and edges), and runs of several servers, computed by the definitions.
use Rattle.std.specs.Prelude.{◌≡◌, refl, [], ◌∷◌}
use Rattle.model.specs.Compute.{computing}
use Rattle.model.specs.Text.{bytes}
use Rattle.model.specs.Lines.{initial_state, refusal, printed}
use Rattle.model.specs.Run.{outcomes_up_to, lines_of, run}

example : run (bytes "cluster 1 4\nelect 0\nset 0 61 6869\nget 0 61\nget 0 65\nkeys 0 0\nelect 1\n")
    ≡ bytes "1 done 4\n2 value 1 6869\n3 value 1 -\n4 keys 1 61\nline 7 refused 3\nmessages 0 0 0 0 0\n"
unfolding computing
example = refl

-- a fourth key is stored, a fifth is `full`
fourth_and_fifth_key : run (bytes "cluster 1 1\nelect 0\nset 0 61 01\nset 0 62 01\nset 0 63 01\nset 0 64 01\nset 0 65 01\nset 0 64 02\nkeys 0 0\n")
    ≡ bytes "1 done 4\n2 done 1\n3 done 1\n4 done 1\n5 full 1\n6 done 1\n7 keys 1 61 62 63 64\nmessages 0 0 0 0 0\n"
unfolding computing
fourth_and_fifth_key = refl

-- a value of no bytes is a value: it is printed as `.`, listed, compared, and told from an absent key; `.` is no key
empty_values : run (bytes "cluster 1 1\nelect 0\nset 0 61 .\nget 0 61\nget 0 62\nkeys 0 0\nsetif 0 61 - 01\nsetif 0 61 . 02\nsetif 0 61 02 .\nget 0 61\nset 0 61 -\nget 0 61\nsetif 0 61 . 01\nsetif 0 61 - .\nget 0 61\ndel 0 61\nget 0 61\nget 0 .\nset 0 . 01\nget 0 -\nset 0 61 ..\nset 0 61 .1\n")
    ≡ bytes "1 done 4\n2 value 1 .\n3 value 1 -\n4 keys 1 61\n5 mismatch 1\n6 done 1\n7 done 1\n8 value 1 .\n9 done 1\n10 value 1 -\n11 mismatch 1\n12 done 1\n13 value 1 .\n14 done 1\n15 value 1 -\nline 18 refused 1\nline 19 refused 1\nline 20 refused 4\nline 21 refused 1\nline 22 refused 1\nmessages 0 0 0 0 0\n"
unfolding computing
empty_values = refl

-- four keys with values of no bytes leave no room for a fifth
empty_values_count : run (bytes "cluster 1 1\nelect 0\nset 0 61 .\nset 0 62 .\nset 0 63 .\nset 0 64 .\nset 0 65 .\nset 0 65 -\nset 0 61 01\nkeys 0 0\n")
    ≡ bytes "1 done 4\n2 done 1\n3 done 1\n4 done 1\n5 full 1\n6 done 1\n7 done 1\n8 keys 1 61 62 63 64\nmessages 0 0 0 0 0\n"
unfolding computing
empty_values_count = refl

-- 58 in flight let `elect 0` of 7 through
with_58_in_flight : run (bytes "cluster 7 1\nelect 0\nelect 0\nelect 0\nelect 0\nelect 0\nelect 0\nelect 0\nelect 0\nelect 0\ncopy 0\ncopy 0\ncopy 0\ncopy 0\nelect 0")
    ≡ bytes "messages 64 4 4 0 64\n"
unfolding computing
with_58_in_flight = refl

-- 59 do not
with_59_in_flight : run (bytes "cluster 7 1\nelect 0\nelect 0\nelect 0\nelect 0\nelect 0\nelect 0\nelect 0\nelect 0\nelect 0\ncopy 0\ncopy 0\ncopy 0\ncopy 0\ncopy 0\nelect 0")
    ≡ bytes "line 16 refused 12\nmessages 59 5 5 0 59\n"
unfolding computing
with_59_in_flight = refl

-- a `set` on an unrecovered bucket of three servers: server 0 is elected, reads, writes what it read, checks, and writes
three_servers : run (bytes "cluster 3 1\nelect 0\ndeliver 0\ndeliver 1\nset 0 61 01\ndeliver 1\ndeliver 2\ndeliver 2\ndeliver 3\ndeliver 3\ndeliver 4\ndeliver 4\ndeliver 5\n")
    ≡ bytes "1 done 4\nmessages 15 0 10 0 5\n"
unfolding computing
three_servers = refl

-- ---- runs that tell the rules from the mistakes near at hand (RULES, Mistakes and contracts 1)

-- two halves of four servers elect nobody: neither server 0 nor server 2 leads under number 1
half_is_no_majority : run (bytes "cluster 4 1\nelect 0\ndeliver 0\ndeliver 2\nelect 2\ndeliver 4\ndeliver 4\nget 0 61\nget 2 61\n")
    ≡ bytes "line 8 refused 8\nline 9 refused 8\nmessages 8 0 4 0 4\n"
unfolding computing
half_is_no_majority = refl

-- of four servers one refusal leaves a majority, and the round stays open; two do not, and the call ends
refusals_that_leave_a_majority : run (bytes "cluster 4 1\nelect 0\ndeliver 0\ndeliver 0\ndeliver 1\ndeliver 1\nelect 3\nelect 3\ndeliver 5\ndeliver 5\nget 0 61\ndeliver 7\ndeliver 7\ndeliver 8\nget 0 61\ndeliver 8\n")
    ≡ bytes "line 15 refused 9\n1 notdone 1\nmessages 18 0 10 0 8\n"
unfolding computing
refusals_that_leave_a_majority = refl

-- of five servers two accepted the own write of call 1, one of them acknowledged it twice: no majority, and after the timeout the
-- result is `unknown`, since the write was sent
replies_of_one_server : run (bytes "cluster 5 1\nelect 0\ndeliver 0\ndeliver 0\ndeliver 2\ndeliver 2\nset 0 61 01\ndeliver 2\ndeliver 2\ndeliver 4\ndeliver 4\ndeliver 4\ndeliver 4\ndeliver 6\ndeliver 6\ndeliver 6\ndeliver 6\ndeliver 8\ndeliver 8\ndeliver 8\ncopy 11\ndeliver 11\ntimeout 0 0\n")
    ≡ bytes "1 unknown 4\nmessages 29 1 19 0 11\n"
unfolding computing
replies_of_one_server = refl

-- server 1 has stored (1, 3) when a copy of the write of (1, 2) reaches it; server 2, elected by it, reads what (1, 3) wrote
late_write : run (bytes "cluster 3 1\nelect 0\ndeliver 0\ndeliver 1\nset 0 61 01\ndeliver 1\ndeliver 2\ndeliver 2\ndeliver 3\ndeliver 3\ndeliver 4\ncopy 4\ndeliver 6\nset 0 61 02\ndeliver 6\ndeliver 7\ndeliver 4\nelect 2\nelect 2\ndeliver 10\ndeliver 10\nget 2 61\ndeliver 11\ndeliver 11\ndeliver 12\ndeliver 12\ndeliver 13\ndeliver 13\n")
    ≡ bytes "1 done 4\n2 done 1\n3 value 3 02\nmessages 33 1 21 0 13\n"
unfolding computing
late_write = refl

-- server 0 ceases to lead; two late votes under its number do not bring it back, and the next call is refused
late_votes : run (bytes "cluster 3 1\nelect 0\ndeliver 0\ndeliver 0\ncopy 0\nget 0 61\ntimeout 0 0\ndeliver 0\ndeliver 0\nget 0 61\n")
    ≡ bytes "1 notdone 1\nline 10 refused 8\nmessages 6 1 5 0 2\n"
unfolding computing
late_votes = refl

-- server 0 still leads under 1 and stores 01 when server 1 leads under 2 and has written 02: its checking round is refused, so it
-- does not answer from its copy
old_leader_does_not_answer : run (bytes "cluster 3 1\nelect 0\ndeliver 0\ndeliver 1\nset 0 61 01\ndeliver 2\ndeliver 2\ndeliver 3\ndeliver 3\ndeliver 4\ndeliver 4\ndeliver 5\ndeliver 5\nelect 1\ndeliver 6\ndeliver 6\nset 1 61 02\ndeliver 7\ndeliver 7\ndeliver 8\ndeliver 8\ndeliver 9\ndeliver 9\ndeliver 10\ndeliver 10\nget 0 61\ndeliver 10\ndeliver 10\ndeliver 10\ndeliver 10\n")
    ≡ bytes "1 done 4\n2 done 4\n3 notdone 1\nmessages 34 0 24 0 10\n"
unfolding computing
old_leader_does_not_answer = refl

-- servers 0 and 2 accepted the own write of call 2 before server 4 was elected under 2; server 1 reported to server 4 and then
-- refuses that write, so call 2 is not `done` though server 4, which did not see its write, answers with the old value
read_raises_the_vote : run (bytes "cluster 5 1\nelect 0\ndeliver 0\ndeliver 0\ndeliver 2\ndeliver 2\nset 0 61 01\ndeliver 2\ndeliver 2\ndeliver 4\ndeliver 4\ndeliver 4\ndeliver 4\ndeliver 6\ndeliver 6\ndeliver 6\ndeliver 6\ndeliver 8\ndeliver 8\ndeliver 8\ndeliver 8\ndeliver 10\ndeliver 10\nset 0 61 02\ndeliver 11\ndeliver 13\nelect 4\nelect 4\ndeliver 19\ndeliver 19\ndeliver 19\ndeliver 19\nget 4 61\ndeliver 20\ndeliver 21\ndeliver 21\ndeliver 21\ndeliver 10\ndeliver 24\ndeliver 22\ndeliver 22\ndeliver 22\ndeliver 22\ndeliver 24\ndeliver 24\ndeliver 24\ndeliver 24\ntimeout 0 0\n")
    ≡ bytes "1 done 4\n3 value 3 01\n2 unknown 1\nmessages 64 0 40 0 24\n"
unfolding computing
read_raises_the_vote = refl

-- ---- fewer rounds for writes (RULES, Calls 3)

-- on an unrecovered bucket a `set` makes 4 rounds; on a recovered one every write makes 1, and what ends as `mismatch` or `full` makes the
-- checking round, where `mismatch` is looked at before `full`; an election leaves the bucket unrecovered
rounds_of_a_server_alone : run (bytes "cluster 1 1\nelect 0\nset 0 61 01\nset 0 61 02\nsetif 0 61 02 03\nsetif 0 61 02 04\nsetif 0 62 - 01\ndel 0 62\ndel 0 62\nset 0 62 -\nget 0 61\nkeys 0 0\nset 0 62 01\nset 0 63 01\nset 0 64 01\nset 0 65 01\nsetif 0 65 - 01\nsetif 0 65 01 01\nset 0 65 -\nelect 0\nset 0 61 05\nset 0 61 06\n")
    ≡ bytes "1 done 4\n2 done 1\n3 done 1\n4 mismatch 1\n5 done 1\n6 done 1\n7 done 1\n8 done 1\n9 value 1 03\n10 keys 1 61\n11 done 1\n12 done 1\n13 done 1\n14 full 1\n15 full 1\n16 mismatch 1\n17 done 1\n18 done 4\n19 done 1\nmessages 0 0 0 0 0\n"
unfolding computing
rounds_of_a_server_alone = refl

-- of three servers: the second write is `done` with the reply to it, the third call checks before it ends as `mismatch`, and the fourth,
-- whose write is sent at once, is `unknown` after the timeout
rounds_of_three_servers : run (bytes "cluster 3 1\nelect 0\ndeliver 0\ndeliver 1\nset 0 61 01\ndeliver 1\ndeliver 2\ndeliver 2\ndeliver 3\ndeliver 3\ndeliver 4\ndeliver 4\ndeliver 5\nset 0 61 02\ndeliver 5\ndeliver 6\nsetif 0 61 01 03\ndeliver 6\ndeliver 7\nsetif 0 61 02 03\ntimeout 0 0\nget 0 61\n")
    ≡ bytes "1 done 4\n2 done 1\n3 mismatch 1\n4 unknown 1\nline 22 refused 8\nmessages 23 0 14 0 9\n"
unfolding computing
rounds_of_three_servers = refl

-- ---- elections (RULES, Elections 1)

-- server 2 voted under 3 and was cut off: its first election is under 4, server 1 votes for it, and it leads
cut_off : run (bytes "cluster 3 1\nelect 0\nelect 0\nelect 0\ndeliver 5\nelect 2\ndeliver 7\ndeliver 7\nget 2 61\n")
    ≡ bytes "messages 12 0 3 0 9\n"
unfolding computing
cut_off = refl

-- an election starts anew: the leader's call ends, it leads no more, a late vote of its last election does not count, and a vote of the
-- new one does
elect_again : run (bytes "cluster 3 1\nelect 0\ndeliver 0\ndeliver 0\ndeliver 0\nget 0 61\nelect 0\nget 0 61\ndeliver 0\nget 0 61\ndeliver 2\ndeliver 3\nget 0 61\n")
    ≡ bytes "1 notdone 1\nline 8 refused 8\nline 10 refused 8\nmessages 11 0 6 0 5\n"
unfolding computing
elect_again = refl

-- with 2 as the greatest election number: server 1, whose own number is 0, has voted under 2, so neither it nor server 0 may stand; server 2,
-- which has heard nothing, may
eleven_by_the_vote : outcomes_up_to 2 initial_state (lines_of (bytes "cluster 3 1\nelect 0\nelect 0\ndeliver 2\nelect 1\nelect 0\nelect 2\n"))
    ≡ printed [] ∷ printed [] ∷ printed [] ∷ printed [] ∷ refusal 11 ∷ refusal 11 ∷ printed [] ∷ []
unfolding computing
eleven_by_the_vote = refl
