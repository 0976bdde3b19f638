-- Cuts and starts (RULES, Restarts), computed by the definitions.
use Rattle.std.specs.Prelude.{◌≡◌, refl}
use Rattle.model.specs.Compute.{computing}
use Rattle.model.specs.Text.{bytes}
use Rattle.model.specs.Run.{run}

-- server 2, which has not voted, is cut before it stores the vote and the bucket of server 0's write (the recovery write to it is lost):
-- it comes back with nothing, and server 1, which voted under 1, refuses it an election under 1
cut_after_0 : run (bytes "cluster 3 1\nelect 0\ndeliver 0\ndeliver 1\nset 0 61 01\ndeliver 1\ndeliver 2\ndeliver 2\ndeliver 3\ndeliver 3\ndeliver 4\nlose 2\ncut 4 0\nstart 2\nelect 2\ndeliver 5\nget 2 61\n")
    ≡ bytes "line 17 refused 8\nmessages 17 0 9 2 6\n"
unfolding computing
cut_after_0 = refl

-- cut after the vote: it stands under 2, is elected, and reads what was there before the write
cut_after_1 : run (bytes "cluster 3 1\nelect 0\ndeliver 0\ndeliver 1\nset 0 61 01\ndeliver 1\ndeliver 2\ndeliver 2\ndeliver 3\ndeliver 3\ndeliver 4\nlose 2\ncut 4 1\nstart 2\nelect 2\ndeliver 5\ndeliver 5\nget 2 61\ndeliver 6\ndeliver 6\ndeliver 7\ndeliver 7\ndeliver 8\ndeliver 8\n")
    ≡ bytes "2 value 3 -\nmessages 26 0 16 2 8\n"
unfolding computing
cut_after_1 = refl

-- cut after the vote and the bucket: it reads what the write, which nobody acknowledged, left with it
cut_after_2 : run (bytes "cluster 3 1\nelect 0\ndeliver 0\ndeliver 1\nset 0 61 01\ndeliver 1\ndeliver 2\ndeliver 2\ndeliver 3\ndeliver 3\ndeliver 4\nlose 2\ncut 4 2\nstart 2\nelect 2\ndeliver 5\ndeliver 5\nget 2 61\ndeliver 6\ndeliver 6\ndeliver 7\ndeliver 7\ndeliver 8\ndeliver 8\n")
    ≡ bytes "2 value 3 01\nmessages 26 0 16 2 8\n"
unfolding computing
cut_after_2 = refl

-- server 1 voted for server 0 under 1 and comes back: it refuses server 2 under 1, and its vote for server 0 still counts
voter_keeps_its_vote : run (bytes "cluster 3 1\nelect 0\ndeliver 0\nstop 1\nstart 1\nelect 2\ndeliver 3\ndeliver 3\nget 2 61\ndeliver 1\nget 0 61\n")
    ≡ bytes "line 9 refused 8\nmessages 8 0 4 0 4\n"
unfolding computing
voter_keeps_its_vote = refl

-- and so does a voter that was cut after it stored its vote, before it replied
cut_voter_keeps_its_vote : run (bytes "cluster 3 1\nelect 0\ncut 0 1\nstart 1\nelect 2\ndeliver 2\ndeliver 2\nget 2 61\n")
    ≡ bytes "line 8 refused 8\nmessages 5 0 2 1 2\n"
unfolding computing
cut_voter_keeps_its_vote = refl

-- server 0 comes back and does not lead: the reply to its old round counts for nothing, call 1 never ends; elected again, it takes a
-- call on the same bucket
leader_comes_back : run (bytes "cluster 3 1\nelect 0\ndeliver 0\ndeliver 1\nget 0 61\ndeliver 1\nstop 0\nstart 0\ndeliver 2\nget 0 61\nelect 0\ndeliver 2\ndeliver 3\nget 0 61\ndeliver 3\ndeliver 4\ndeliver 4\ndeliver 5\ndeliver 5\ndeliver 6\n")
    ≡ bytes "line 10 refused 8\n2 value 3 -\nmessages 18 0 12 0 6\n"
unfolding computing
leader_comes_back = refl

-- a candidate comes back as none: a vote for it counts for nothing
candidate_comes_back : run (bytes "cluster 3 1\nelect 0\ndeliver 0\nstop 0\nstart 0\ndeliver 1\nget 0 61\n")
    ≡ bytes "line 7 refused 8\nmessages 3 0 2 0 1\n"
unfolding computing
candidate_comes_back = refl

-- refused with 18: a start of a running server, more stores than the message makes, another kind of message, a stopped server; with 3
-- and 7 before it; and 6 is not given
refused_18 : run (bytes "cluster 3 1\nstart 0\nstart 3\nelect 0\ncut 0 2\ncut 2 0\ndeliver 0\ncut 1 0\nstop 2\ncut 0 0\nstart 2\ncut 0 1\nstart 2\ncut 0 0\nstart 2\n")
    ≡ bytes "line 2 refused 18\nline 3 refused 3\nline 5 refused 18\nline 6 refused 7\nline 8 refused 18\nline 10 refused 18\nline 14 refused 18\nline 15 refused 18\nmessages 3 0 1 1 1\n"
unfolding computing
refused_18 = refl

-- a vote that stands there already is no store: server 1 makes none for server 0's read, server 2 one
same_vote_no_store : run (bytes "cluster 3 1\nelect 0\ndeliver 0\ndeliver 1\nget 0 61\ncut 1 1\ncut 1 0\nstart 1\ncut 1 2\ncut 1 1\nstart 2\nstart 2\n")
    ≡ bytes "line 6 refused 18\nline 9 refused 18\nline 12 refused 18\nmessages 5 0 2 2 1\n"
unfolding computing
same_vote_no_store = refl

-- a leader with two open calls is cut when it has stored a higher vote: no call ends. It comes back, stands one above that vote and leads;
-- calls on both buckets are taken, and a timeout ends these alone
cut_leader_ends_no_call : run (bytes "cluster 3 2\nelect 0\ndeliver 0\ndeliver 1\nkeys 0 0\nkeys 0 1\nelect 1\ncut 5 1\nkeys 0 0\nstart 0\nkeys 0 0\nelect 0\ndeliver 6\ndeliver 7\nkeys 0 0\nkeys 0 1\ntimeout 0 1\n")
    ≡ bytes "line 9 refused 6\nline 11 refused 8\n3 notdone 1\n4 notdone 1\nmessages 16 0 4 1 11\n"
unfolding computing
cut_leader_ends_no_call = refl

-- servers 0 and 1 stood under 1, and 0 leads with the vote of 2: its read makes server 1 store a vote for another leader under the same
-- number, one store, which it keeps over its restart
new_leader_same_number : run (bytes "cluster 3 1\nelect 0\nelect 1\ndeliver 1\ndeliver 3\nget 0 61\ncut 3 2\ncut 3 1\nstart 1\ndeliver 3\ndeliver 3\ncut 3 2\ndeliver 3\ndeliver 4\ndeliver 4\ndeliver 5\n")
    ≡ bytes "line 7 refused 18\nline 12 refused 18\n1 value 3 -\nmessages 14 0 8 1 5\n"
unfolding computing
new_leader_same_number = refl
