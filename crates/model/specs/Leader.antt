-- The rules of a server (RULES, Elections, Rounds, READ, Calls, Ceasing), and the handling of a message.
-- `n` is the number of servers, `me` the server's own number, `b` a bucket, `e` an election number, `k` a round, `q` another server.
use Rattle.std.specs.Prelude.{List, [], ◌∷◌, ◌++◌, map, Bool, true, false, ℕ, zero, suc, ◌+◌, ◌-◌, max, ltb, leb, eqb, replicate, get_or, set}
use Rattle.std.proofs.Math.Option.{Option, none, some}
use Rattle.entries.specs.Entries.{Entry}
use Rattle.model.specs.Measures.{majority}
use Rattle.model.specs.Calls.{Words, Result, done, notdone, unknown, Effect, answers, writes, effect_writes, effect, Answer}
use Rattle.model.specs.Cluster.{Version, version, above, Copy, copy_of, Stored, follower, candidate, leading, Purpose, recovery_read, recovery_write, check, own_write, Mark, silent, acknowledged, refused, Round, Call, Volatile, Server, Body, please_vote, ack_vote, nack_vote, replica_write, ack_write, nack_write, replica_read, ack_read, nack_read, Message, fresh_copy, copy_at, round_at, call_at, Role}
use Rattle.model.specs.Replica.{grants, after_vote, Request, reading, writing, request_body, may_accept, accepting, acknowledging, refusing}

-- what a server's step gives: the server afterwards, the messages it sends, in order, and the answers it prints
pub record Reaction : Type 0 where
  pub server : Server
  pub sends : List Message
  pub answers : List Answer

abbrev pub reaction : Server → List Message → List Answer → Reaction
reaction s ms out = record { server = s; sends = ms; answers = out }

abbrev pub no_reaction : Server → Reaction
no_reaction s = reaction s [] []

-- a reaction, with messages sent before it
abbrev pub after : List Message → Reaction → Reaction
after ms r = reaction r.server (ms ++ r.sends) r.answers

abbrev pub with_stored : Server → Stored → Server
with_stored s st = record { stored = st; volatile = s.volatile; stopped = s.stopped }

abbrev pub with_volatile : Server → Volatile → Server
with_volatile s w = record { stored = s.stored; volatile = w; stopped = s.stopped }

-- ---- broadcasts: to the other servers in rising order of number

unfoldable pub below : ℕ → List ℕ
below zero = []
below (suc n) = below n ++ (n ∷ [])

unfoldable pub without : ℕ → List ℕ → List ℕ
without p [] = []
without p (q ∷ l) = elim (eqb q p) [ true ↦ without p l | false ↦ q ∷ without p l ]

unfoldable pub broadcast : ℕ → ℕ → ℕ → ℕ → ℕ → Body → List Message
broadcast n me b e k body =
    map (λ q. record { sender = me; receiver = q; bucket = b; election = e; round = k; body = body }) (without me (below n))

-- ---- when leading ends: all open calls end in bucket order

unfoldable pub ended : Call → Answer
ended c = record { call = c.number; result = elim c.sent [ true ↦ unknown | false ↦ notdone ]; rounds = c.rounds }

unfoldable pub endings : List (Option Call) → List Answer
endings [] = []
endings (none ∷ l) = endings l
endings (some c ∷ l) = ended c ∷ endings l

-- neither leader nor candidate, with no round and no call open
unfoldable pub ceased : Volatile → Volatile
ceased w =
    record {
      role = follower;
      votes = map (λ x. false) w.votes;
      last_round = w.last_round;
      rounds = map (λ x. none) w.rounds;
      calls = map (λ x. none) w.calls;
    }

unfoldable pub cease : Server → Reaction
cease s = reaction (with_volatile s (ceased s.volatile)) [] (endings s.volatile.calls)

-- what a server that comes back has (RULES, Restarts 4): as when leading ends, and its rounds are numbered from 1 again
unfoldable pub forgotten : Volatile → Volatile
forgotten w =
    let v = ceased w in record { role = v.role; votes = v.votes; last_round = 0; rounds = v.rounds; calls = v.calls }

-- whether a server leads or stands for election
unfoldable pub acts : Role → Bool
acts follower = false
acts candidate = true
acts leading = true

-- a server whose vote rises above its own number is no longer leader or candidate; a follower was neither, and stays as it is
unfoldable pub step_down : Server → Reaction
step_down s =
    elim (acts s.volatile.role) [
      | false ↦ no_reaction s
      | true ↦
          elim (ltb s.stored.number s.stored.vote) [ true ↦ cease s | false ↦ no_reaction s ]
    ]

-- ---- elections

unfoldable pub votes_for : List Bool → ℕ
votes_for [] = 0
votes_for (true ∷ l) = suc (votes_for l)
votes_for (false ∷ l) = votes_for l

-- leader with a majority of votes, candidate with fewer
unfoldable pub standing : ℕ → List Bool → Volatile → Volatile
standing n votes w =
    record {
      role = elim (leb (majority n) (votes_for votes)) [ true ↦ leading | false ↦ candidate ];
      votes = votes;
      last_round = w.last_round;
      rounds = w.rounds;
      calls = w.calls;
    }

-- Algorithm 1, STARTELECTION, once the number is raised to e: the server's own vote first, then the requests
unfoldable pub stand_for_election : ℕ → ℕ → ℕ → Server → Reaction
stand_for_election n me e s =
    let votes = set s.volatile.votes me (grants e me s.stored) in
    reaction
    (record { stored = after_vote e me s.stored; volatile = standing n votes s.volatile; stopped = s.stopped })
    (broadcast n me 0 e 0 please_vote)
    []

-- the larger of a server's number and its own vote
abbrev pub larger_number : Stored → ℕ
larger_number st = max st.number st.vote

-- the number of its next election is one above that
unfoldable pub next_number : Stored → ℕ
next_number st = larger_number st + 1

abbrev pub raised_to : ℕ → Stored → Stored
raised_to e st = record { number = e; vote = st.vote; leader = st.leader; copies = st.copies }

-- leadership and candidacy end, and the server stands under its next number
unfoldable pub elect : ℕ → ℕ → Server → Reaction
elect n me s =
    let f = cease s in
    let e = next_number s.stored in
    let g = stand_for_election n me e (with_stored f.server (raised_to e s.stored)) in
    reaction g.server g.sends f.answers

-- ACKVOTE of q under e: counts only for a candidate, for its present number, once per server
unfoldable pub on_ack_vote : ℕ → ℕ → ℕ → Server → Reaction
on_ack_vote n q e s =
    elim s.volatile.role [
      | follower ↦ no_reaction s
      | leading ↦ no_reaction s
      | candidate ↦
          elim (eqb e s.stored.number) [
            | false ↦ no_reaction s
            | true ↦
                no_reaction (with_volatile s (standing n (set s.volatile.votes q true) s.volatile))
          ]
    ]

-- ---- rounds

unfoldable pub acknowledgements : List Mark → ℕ
acknowledgements [] = 0
acknowledgements (silent ∷ l) = acknowledgements l
acknowledgements (acknowledged ∷ l) = suc (acknowledgements l)
acknowledgements (refused ∷ l) = acknowledgements l

unfoldable pub refusals : List Mark → ℕ
refusals [] = 0
refusals (silent ∷ l) = refusals l
refusals (acknowledged ∷ l) = refusals l
refusals (refused ∷ l) = suc (refusals l)

-- a majority of acknowledgements closes a round
unfoldable pub closes : ℕ → Round → Bool
closes n r = leb (majority n) (acknowledgements r.marks)

-- it fails when refusals leave fewer than a majority
unfoldable pub fails : ℕ → Round → Bool
fails n r = ltb (n - refusals r.marks) (majority n)

-- one more round made for a call; `own` where it is the call's own write
unfoldable pub one_more : Bool → Option Call → Option Call
one_more own none = none
one_more own (some c) =
    some (record { number = c.number; words = c.words; rounds = c.rounds + 1; sent = elim own [ true ↦ true | false ↦ c.sent ] })

unfoldable pub is_own : Purpose → Bool
is_own recovery_read = false
is_own recovery_write = false
is_own check = false
is_own own_write = true

-- only a recovery read looks at the copies that replicas report
unfoldable pub report_to : Purpose → Copy → Copy
report_to recovery_read c = c
report_to recovery_write c = fresh_copy
report_to check c = fresh_copy
report_to own_write c = fresh_copy

-- the open round of a broadcast, with the sender's own acknowledgement. It does not ask whether the sender would refuse: a
-- running leader's vote equals its number in every reached state (RoleOk in crates/consistency/proofs/Invariant.antt)
unfoldable pub new_round : ℕ → ℕ → ℕ → Purpose → Server → Round
new_round n me b purpose s =
    record {
      number = s.volatile.last_round + 1;
      election = s.stored.number;
      purpose = purpose;
      marks = set (replicate n silent) me acknowledged;
      best = report_to purpose (copy_at s.stored b);
    }

unfoldable pub opening : ℕ → ℕ → ℕ → Purpose → Request → Server → Server
opening n me b purpose request s =
    record {
      stored = accepting b s.stored.number me request s.stored;
      volatile =
          record {
            role = s.volatile.role;
            votes = s.volatile.votes;
            last_round = s.volatile.last_round + 1;
            rounds = set s.volatile.rounds b (some (new_round n me b purpose s));
            calls = set s.volatile.calls b (one_more (is_own purpose) (call_at s.volatile b));
          };
      stopped = s.stopped;
    }

-- a broadcast for the call on bucket b: the sender's own share first, then the messages; `next` is what follows where
-- the sender alone is a majority
unfoldable pub open_round : ℕ → ℕ → ℕ → Purpose → Request → (Server → Reaction) → Server → Reaction
open_round n me b purpose request next s =
    let t = opening n me b purpose request s in
    let ms = broadcast n me b s.stored.number (s.volatile.last_round + 1) (request_body request) in
    elim (closes n (new_round n me b purpose s)) [ true ↦ after ms (next t) | false ↦ reaction t ms [] ]

-- ---- calls

-- the call on bucket b ends with a result
unfoldable pub answer_of : Result → Option Call → List Answer
answer_of r none = []
answer_of r (some c) = record { call = c.number; result = r; rounds = c.rounds } ∷ []

unfoldable pub finish : ℕ → Result → Server → Reaction
finish b r s =
    reaction
    (with_volatile s
    (record {
      role = s.volatile.role;
      votes = s.volatile.votes;
      last_round = s.volatile.last_round;
      rounds = set s.volatile.rounds b none;
      calls = set s.volatile.calls b none;
    }))
    []
    (answer_of r (call_at s.volatile b))

-- the next version under the leader's number
unfoldable pub next_version : ℕ → Server → Version
next_version b s = version s.stored.number ((copy_at s.stored b).version.counter + 1)

-- Algorithm 5: what is left of a call, from the leader's own copy
unfoldable pub applying : ℕ → ℕ → ℕ → Effect → Server → Reaction
applying n me b (answers r) s = finish b r s
applying n me b (writes t) s = open_round n me b own_write (writing (copy_of (next_version b s) t)) (finish b done) s

unfoldable pub after_read : ℕ → ℕ → ℕ → Server → Reaction
after_read n me b s =
    elim (call_at s.volatile b) [
      | none ↦ no_reaction s
      | some c ↦
          applying n me b (effect c.words (copy_at s.stored b).table) s
    ]

-- Algorithm 3, lines 4 to 6: the checking round
unfoldable pub checking : ℕ → ℕ → ℕ → Server → Reaction
checking n me b s = open_round n me b check reading (after_read n me b) s

-- Algorithm 4, lines 6 to 10: the greatest version reported is written under (number, 1)
unfoldable pub recovering : ℕ → ℕ → ℕ → List Entry → Server → Reaction
recovering n me b t s = open_round n me b recovery_write (writing (copy_of (version s.stored.number 1) t)) (checking n me b) s

-- a bucket is recovered where the version of the leader's copy has the leader's number e
abbrev pub recovered : ℕ → Copy → Bool
recovered e copy = eqb copy.version.election e

-- READ: recovery where the bucket is not recovered, then the checking round
unfoldable pub start_read : ℕ → ℕ → ℕ → Server → Reaction
start_read n me b s =
    elim (recovered s.stored.number (copy_at s.stored b)) [
      | true ↦ checking n me b s
      | false ↦
          open_round n me b recovery_read reading (recovering n me b (copy_at s.stored b).table) s
    ]

-- what a call writes without READ (RULES, Calls 3): on a recovered bucket its effect on the leader's copy, if that is a write
unfoldable pub straight : ℕ → Words → Copy → Option (List Entry)
straight e words copy =
    elim (recovered e copy) [
      | true ↦ effect_writes (effect words copy.table)
      | false ↦ none
    ]

-- the first round of a call: its own write at once, or that of READ
unfoldable pub start_call : ℕ → ℕ → ℕ → Words → Server → Reaction
start_call n me b words s =
    elim (straight s.stored.number words (copy_at s.stored b)) [ some t ↦ applying n me b (writes t) s | none ↦ start_read n me b s ]

-- a call is taken
unfoldable pub begin_call : ℕ → ℕ → ℕ → ℕ → Words → Server → Reaction
begin_call n me b i words s =
    start_call n me b words
    (with_volatile s
    (record {
      role = s.volatile.role;
      votes = s.volatile.votes;
      last_round = s.volatile.last_round;
      rounds = s.volatile.rounds;
      calls = set s.volatile.calls b (some (record { number = i; words = words; rounds = 0; sent = false }));
    }))

-- what follows a round that closed
unfoldable pub closed : ℕ → ℕ → ℕ → Round → Server → Reaction
closed n me b r s =
    elim r.purpose [
      | recovery_read ↦ recovering n me b r.best.table s
      | recovery_write ↦ checking n me b s
      | check ↦ after_read n me b s
      | own_write ↦ finish b done s
    ]

-- ---- replies to rounds

-- the greater of the best copy so far and the one reported
unfoldable pub better : Copy → Copy → Copy
better old new = elim (above new.version old.version) [ true ↦ new | false ↦ old ]

-- a mark is set once
unfoldable pub marked_by : ℕ → Mark → List Mark → List Mark
marked_by q m marks = elim (get_or marks q refused) [ silent ↦ set marks q m | acknowledged ↦ marks | refused ↦ marks ]

-- the round with the reply of q counted; what q reported counts only with its mark
unfoldable pub counted : ℕ → Mark → Copy → Round → Round
counted q m report r =
    record {
      number = r.number;
      election = r.election;
      purpose = r.purpose;
      marks = marked_by q m r.marks;
      best =
          elim (get_or r.marks q refused) [
            | silent ↦ better r.best (report_to r.purpose report)
            | acknowledged ↦ r.best
            | refused ↦ r.best
          ];
    }

abbrev pub with_round : Server → ℕ → Round → Server
with_round s b r =
    with_volatile s
    (record {
      role = s.volatile.role;
      votes = s.volatile.votes;
      last_round = s.volatile.last_round;
      rounds = set s.volatile.rounds b (some r);
      calls = s.volatile.calls;
    })

-- the reply is counted; then the round closes, fails or stays open
unfoldable pub counting : ℕ → ℕ → ℕ → Round → Server → Reaction
counting n me b r s =
    elim (closes n r) [
      | true ↦ closed n me b r (with_round s b r)
      | false ↦
          elim (fails n r) [ true ↦ cease s | false ↦ no_reaction (with_round s b r) ]
    ]

-- a reply counts only with the round's bucket, election number and round
unfoldable pub on_reply : ℕ → ℕ → Message → Mark → Copy → Server → Reaction
on_reply n me m mark report s =
    elim (round_at s.volatile m.bucket) [
      | none ↦ no_reaction s
      | some r ↦
          elim (eqb m.election r.election) [
            | false ↦ no_reaction s
            | true ↦
                elim (eqb m.round r.number) [
                  | false ↦ no_reaction s
                  | true ↦
                      counting n me m.bucket (counted m.sender mark report r) s
                ]
          ]
    ]

-- ---- the handling of a message

-- a reply carries bucket, election number and round of what it answers
abbrev pub reply_to : ℕ → Message → Body → Message
reply_to me m body =
    record { sender = me; receiver = m.sender; bucket = m.bucket; election = m.election; round = m.round; body = body }

-- the answer to a request, after which the server may have ceased to lead; ceasing sends nothing
abbrev pub replying : Reaction → Message → Reaction
replying r m = reaction r.server (m ∷ []) r.answers

unfoldable pub on_please_vote : ℕ → Message → Server → Reaction
on_please_vote me m s =
    replying (step_down (with_stored s (after_vote m.election m.sender s.stored)))
    (reply_to me m (elim (grants m.election m.sender s.stored) [ true ↦ ack_vote | false ↦ nack_vote ]))

unfoldable pub on_request : ℕ → Message → Request → Server → Reaction
on_request me m request s =
    elim (may_accept m.election s.stored) [
      | false ↦ reaction s (reply_to me m (refusing request) ∷ []) []
      | true ↦
          let st = accepting m.bucket m.election m.sender request s.stored in
          replying (step_down (with_stored s st)) (reply_to me m (acknowledging m.bucket request st))
    ]

unfoldable pub handle : ℕ → ℕ → Message → Server → Reaction
handle n me m s =
    elim m.body [
      | please_vote ↦ on_please_vote me m s
      | ack_vote ↦ on_ack_vote n m.sender m.election s
      | nack_vote ↦ no_reaction s
      | replica_write c ↦ on_request me m (writing c) s
      | ack_write ↦ on_reply n me m acknowledged fresh_copy s
      | nack_write ↦ on_reply n me m refused fresh_copy s
      | replica_read ↦ on_request me m reading s
      | ack_read c ↦ on_reply n me m acknowledged c s
      | nack_read ↦ on_reply n me m refused fresh_copy s
    ]
