-- The rounds of a call at a leader whose requests nobody refuses: what each of its steps sends, leaves open and answers, and how
-- many deliveries may follow.
use mathlib.Core.Path.{◌≡◌, refl, ap, ◌∙◌}
use mathlib.Core.Logic.{◌⊎◌, inl, inr, ◌≢◌}
use mathlib.Core.List.Memᴰ
use mathlib.Core.List.{List, [], ◌++◌}
use mathlib.Core.Bool.{Bool, true, false}
use mathlib.Core.Option.{Option, none, some}
use Prim.Native.Nat.{ℕ, zero, suc, ◌+◌, ◌-◌, ◌*◌, ◌≤◌, ◌<◌}
use native.Mathlib.Omega.{arith}
use native.Mathlib.Decide.{ℕ_discrete}
use lib.ListN.{length, get_or, set, replicate, length-set, length-replicate}
use lib.Seq.{get_or-set_same}
use Rattle.entries.specs.Entries.{Entry, value_of, stored}
use Rattle.table.specs.Form.{same_value}
use Rattle.model.specs.Measures.{max_entries}
use Rattle.model.specs.Calls.{Words, get, setif, del, keys, Result, value, listed, done, mismatch, full, notdone, unknown, Effect, answers, writes, setting, effect}
use Rattle.model.specs.Calls
use Rattle.model.specs.Cluster.{version, copy_of, copy_at, Purpose, recovery_read, recovery_write, check, own_write, silent, acknowledged, refused, Round, Call, Server, Message, round_at, call_at}
use Rattle.model.specs.Replica.{Request, reading, writing, request_body}
use Rattle.model.specs.Leader.{Reaction, reaction, after, broadcast, refusals, closes, one_more, is_own, new_round, opening, open_round, answer_of, finish, next_version, applying, after_read, checking, recovering, recovered, start_read, start_call, begin_call, closed}
use Rattle.model.proofs.FirstRound.{first_round}
use Rattle.model.proofs.Replicas.{accepting_keeps}
use Rattle.limits.specs.Lists.{All, nil}
use Rattle.limits.proofs.Lists.{all_append}
use Rattle.limits.proofs.Rules.{left}
use Rattle.quiet.specs.Statement.{Answered}
use Rattle.quiet.proofs.Counting.{refusals_set, refusals_silent}
use Rattle.quiet.proofs.Weights.{weigh, weigh_append, weigh_broadcast}
use Rattle.quiet.proofs.Messages.{Followed, Ours, Awaited, awaited_right, asked, broadcast_ours}

-- ---- the open round, with the messages ms in flight

-- nobody refused, it is not closed, and every server that runs has acknowledged or is awaited
pub record Waits (f : Followed) (ms : List Message) (r : Round) : Type 0 where
  pub election : r.election ≡ f.election
  pub marks : length r.marks ≡ f.servers
  pub unrefused : refusals r.marks ≡ 0
  pub unclosed : closes f.servers r ≡ false
  pub awaited : (q : ℕ) → q < f.servers → f.stops q ≡ false → (get_or r.marks q refused ≡ acknowledged) ⊎ Awaited q r.number ms

-- other messages in flight, among which everything is that was awaited
pub waits_among : {f : Followed} {ms ns : List Message} (r : Round) →
    ((q : ℕ) → f.stops q ≡ false → Awaited q r.number ms → Awaited q r.number ns) → Waits f ms r → Waits f ns r
waits_among r h w =
    record {
      election = w.election;
      marks = w.marks;
      unrefused = w.unrefused;
      unclosed = w.unclosed;
      awaited = λ q i up. elim (w.awaited q i up) [ inl x ↦ inl x | inr x ↦ inr (h q up x) ];
    }

-- the call is open with its round, or is over
abbrev pub Slot : Followed → List Message → Option Round → Option Call → Type 0
Slot f ms none c = Unit {0}
Slot f ms (some r) none = ⊥
Slot f ms (some r) (some c) = (c.number ≡ f.call) × Waits f ms r

pub slot_among : (f : Followed) {ms ns : List Message} (r : Option Round) (c : Option Call) →
    ((q k : ℕ) → f.stops q ≡ false → Awaited q k ms → Awaited q k ns) → Slot f ms r c → Slot f ns r c
slot_among f none c h s = tt
slot_among f (some r) none h s = s
slot_among f (some r) (some c) h (mine, w) = (mine, waits_among r (λ q up. h q r.number up) w)

pub slot_more : (f : Followed) (a b : List Message) (r : Option Round) (c : Option Call) → Slot f b r c → Slot f (a ++ b) r c
slot_more f a b r c = slot_among f r c (λ q k up. awaited_right a)

-- the rounds that may still follow it
unfoldable pub rest : Option Round → ℕ
rest none = 0
rest (some r) = left r.purpose

-- each costs a request to each other server and its reply
unfoldable pub owed : Followed → ℕ → ℕ
owed f zero = 0
owed f (suc k) = 2 * (f.servers - 1) + owed f k

-- ---- the leader

-- s is the server that f names leader: its number, whether it has stopped, its places for the bucket. Its role is not looked at
pub record IsLeader (f : Followed) (s : Server) : Type 0 where
  pub number : s.stored.number ≡ f.election
  pub stopped : s.stopped ≡ f.stops f.leader
  pub rounds : f.bucket < length s.volatile.rounds
  pub calls : f.bucket < length s.volatile.calls

-- with the call open
pub record Amid (f : Followed) (s : Server) : Type 0 where
  pub is_leader : IsLeader f s
  pub call : Call
  pub there : call_at s.volatile f.bucket ≡ some call
  pub number : call.number ≡ f.call

-- a step of it, when at most k more rounds may be made
pub record Goes (f : Followed) (k : ℕ) (r : Reaction) : Type 0 where
  pub is_leader : IsLeader f r.server
  pub round : Option Round
  pub call : Option Call
  pub round_is : round_at r.server.volatile f.bucket ≡ round
  pub call_is : call_at r.server.volatile f.bucket ≡ call
  pub ours : All (Ours f) r.sends
  pub slot : Slot f r.sends round call
  pub ended : round ≡ none → Answered f.call r.answers
  pub weight : weigh r.sends + owed f (rest round) ≤ owed f k

-- ---- results

-- a result other than `notdone` and `unknown`
unfoldable is_proper : Result → Bool
is_proper (value v) = true
is_proper (listed l) = true
is_proper done = true
is_proper mismatch = true
is_proper full = true
is_proper notdone = false
is_proper unknown = false

proper_is_not : {r x : Result} → is_proper r ≡ true → is_proper x ≡ false → r ≢ x
proper_is_not e f i = let z : ◌≡◌ {A = ℕ} 0 1 = cc (ap is_proper i, e, f) in omega arith

-- what a call answers after READ is such a result
abbrev ProperEffect : Effect → Type 0
ProperEffect (answers r) = is_proper r ≡ true
ProperEffect (writes t) = Unit {0}

setting_proper : (k : List ℕ) (v : Option (List ℕ)) (t : List Entry) → ProperEffect (setting k v t)
unfolding setting is_proper
setting_proper k v t = go (stored max_entries k v t)
  where
    go : (o : Option (List Entry)) → ProperEffect (elim o as (λ _. Effect) [ some u ↦ writes u | none ↦ answers full ])
    go none = refl
    go (some u) = tt

effect_proper : (w : Words) (t : List Entry) → ProperEffect (effect w t)
unfolding effect is_proper
effect_proper (get k) t = refl
effect_proper (Calls.set k v) t = setting_proper k v t
effect_proper (setif k x v) t = go (same_value (value_of k t) x)
  where
    go : (a : Bool) → ProperEffect (elim a as (λ _. Effect) [ true ↦ setting k v t | false ↦ answers mismatch ])
    go true = setting_proper k v t
    go false = refl
effect_proper (del k) t = setting_proper k _ t
effect_proper (keys b) t = refl

module _ (f : Followed) where
  abbrev n : ℕ
  n = f.servers

  abbrev p : ℕ
  p = f.leader

  abbrev i : ℕ
  i = f.bucket

  -- ---- a round is opened

  -- one more round made for a call
  abbrev more : Bool → Call → Call
  more own c = record { number = c.number; words = c.words; rounds = c.rounds + 1; sent = elim own [ true ↦ true | false ↦ c.sent ] }

  opening_amid : (u : Purpose) (r : Request) {s : Server} → Amid f s → Amid f (opening n p i u r s)
  unfolding opening one_more
  opening_amid u r {s} a =
      let w = s.volatile in
      record {
        is_leader =
            record {
              number = (accepting_keeps i s.stored.number p r s.stored).0 ∙ a.is_leader.number;
              stopped = a.is_leader.stopped;
              rounds = rw length-set a.is_leader.rounds;
              calls = rw length-set a.is_leader.calls;
            };
        call = more (is_own u) a.call;
        there = get_or-set_same w.calls i (one_more (is_own u) (call_at w i)) none a.is_leader.calls ∙ rw a.there refl;
        number = a.number;
      }

  own_mark : (q : ℕ) → q ≡ p → get_or (set (replicate n silent) p acknowledged) q refused ≡ acknowledged
  own_mark q d = rw d (get_or-set_same (replicate n silent) p acknowledged refused (rw length-replicate f.inside))

  new_waits : (u : Purpose) (r : Request) {s : Server} → Amid f s → closes n (new_round n p i u s) ≡ false →
      Waits f (broadcast n p i s.stored.number (s.volatile.last_round + 1) (request_body r)) (new_round n p i u s)
  unfolding new_round
  new_waits u r {s} a shut =
      record {
        election = a.is_leader.number;
        marks = rw (length-set, length-replicate);
        unrefused = refusals_set (replicate n silent) p (refusals_silent n);
        unclosed = shut;
        awaited = λ q h up. elim (ℕ_discrete q p) [
          | yes d ↦ inl (own_mark q d)
          | no d ↦ inr (asked f r s.stored.number (s.volatile.last_round + 1) q h d)
        ];
      }

  -- `left u` rounds may follow one made for the purpose u; `next` comes at once where the leader alone is a majority
  module _ (u : Purpose) (r : Request) (next : Server → Reaction) (follows : (t : Server) → Amid f t → Goes f (left u) (next t)) where
    abbrev sent : Server → List Message
    sent s = broadcast n p i s.stored.number (s.volatile.last_round + 1) (request_body r)

    open_goes : {s : Server} → Amid f s → Goes f (suc (left u)) (open_round n p i u r next s)
    unfolding open_round owed
    open_goes {s} a = go (closes n (new_round n p i u s)) refl
      where
        few : weigh (sent s) ≤ 2 * (n - 1)
        few = weigh_broadcast n p i s.stored.number (s.volatile.last_round + 1) (request_body r) f.inside

        mine : All (Ours f) (sent s)
        mine = broadcast_ours f r s.stored.number (s.volatile.last_round + 1) a.is_leader.number

        go : (t : Bool) → closes n (new_round n p i u s) ≡ t →
            Goes f (suc (left u)) (elim t as (λ _. Reaction) [ true ↦ after (sent s) (next (opening n p i u r s)) | false ↦ reaction (opening n p i u r s) (sent s) [] ])
        go true shut =
            let g = follows (opening n p i u r s) (opening_amid u r a) in
            record {
              is_leader = g.is_leader;
              round = g.round;
              call = g.call;
              round_is = g.round_is;
              call_is = g.call_is;
              ours = all_append mine g.ours;
              slot = slot_more f (sent s) _ g.round g.call g.slot;
              ended = g.ended;
              weight = omega (arith, weigh_append (sent s) (next (opening n p i u r s)).sends, g.weight, few);
            }
        go false shut =
            let o = opening_amid u r a in
            record {
              is_leader = o.is_leader;
              round = some (new_round n p i u s);
              call = some o.call;
              round_is = unfold opening in get_or-set_same s.volatile.rounds i (some (new_round n p i u s)) none a.is_leader.rounds;
              call_is = o.there;
              ours = mine;
              slot = (o.number, new_waits u r a shut);
              ended = λ x. let z : ◌≡◌ {A = ℕ} 0 1 = cc in absurd (omega arith);
              weight = unfold rest new_round in omega (arith, few);
            }

  -- ---- the call

  finish_goes : (k : ℕ) (r : Result) → is_proper r ≡ true → {s : Server} → Amid f s → Goes f k (finish i r s)
  unfolding finish answer_of is_proper weigh rest owed
  finish_goes k r good {s} a =
      let w = s.volatile in
      record {
        is_leader = record { number = a.is_leader.number; stopped = a.is_leader.stopped; rounds = rw length-set a.is_leader.rounds; calls = rw length-set a.is_leader.calls };
        round = none;
        call = none;
        round_is = get_or-set_same w.rounds i none none a.is_leader.rounds;
        call_is = get_or-set_same w.calls i none none a.is_leader.calls;
        ours = nil;
        slot = tt;
        ended = λ x.
            rw a.there
            (record {
              answer = record { call = a.call.number; result = r; rounds = a.call.rounds };
              among = Memᴰ.head refl;
              call = a.number;
              not_notdone = proper_is_not good refl;
              not_unknown = proper_is_not good refl;
            });
        weight = omega arith;
      }

  applying_goes : (e : Effect) → ProperEffect e → {s : Server} → Amid f s → Goes f 1 (applying n p i e s)
  unfolding applying is_proper
  applying_goes (answers r) good a = finish_goes 1 r good a
  applying_goes (writes t) good {s} a = open_goes own_write (writing (copy_of (next_version i s) t)) (finish i done) (λ u o. finish_goes 0 done refl o) a

  after_read_goes : {s : Server} → Amid f s → Goes f 1 (after_read n p i s)
  unfolding after_read
  after_read_goes {s} a = rw (after_read, a.there) (applying_goes _ (effect_proper a.call.words (copy_at s.stored i).table) a)

  checking_goes : {s : Server} → Amid f s → Goes f 2 (checking n p i s)
  unfolding checking
  checking_goes a = open_goes check reading (after_read n p i) (λ u o. after_read_goes o) a

  recovering_goes : (t : List Entry) {s : Server} → Amid f s → Goes f 3 (recovering n p i t s)
  unfolding recovering
  recovering_goes t {s} a = open_goes recovery_write (writing (copy_of (version s.stored.number 1) t)) (checking n p i) (λ u o. checking_goes o) a

  -- fewer rounds than may be made
  goes_within : {k m : ℕ} {r : Reaction} → owed f k ≤ owed f m → Goes f k r → Goes f m r
  goes_within h g =
      record { is_leader = g.is_leader; round = g.round; call = g.call; round_is = g.round_is; call_is = g.call_is; ours = g.ours; slot = g.slot; ended = g.ended; weight = omega (arith, g.weight) }

  start_read_goes : {s : Server} → Amid f s → Goes f 4 (start_read n p i s)
  unfolding start_read owed
  start_read_goes {s} a = go (recovered s.stored.number (copy_at s.stored i)) (copy_at s.stored i).table
    where
      go : (z : Bool) (t : List Entry) → Goes f 4 (elim z as (λ _. Reaction) [ true ↦ checking n p i s | false ↦ open_round n p i recovery_read reading (recovering n p i t) s ])
      go true t = goes_within (omega arith) (checking_goes a)
      go false t = open_goes recovery_read reading (recovering n p i t) (λ u o. recovering_goes t o) a

  start_call_goes : (w : Words) {s : Server} → Amid f s → Goes f 4 (start_call n p i w s)
  unfolding owed
  start_call_goes w {s} a =
      first_round n p i w s (Goes f 4) (λ t e h. goes_within (omega arith) (applying_goes (writes t) tt a)) (start_read_goes a)

  pub begin_goes : (w : Words) {s : Server} → IsLeader f s → Goes f 4 (begin_call n p i f.call w s)
  unfolding begin_call
  begin_goes w {s} is_leader =
      start_call_goes w
      (record {
        is_leader = record { number = is_leader.number; stopped = is_leader.stopped; rounds = is_leader.rounds; calls = rw length-set is_leader.calls };
        call = record { number = f.call; words = w; rounds = 0; sent = false };
        there = get_or-set_same s.volatile.calls i _ none is_leader.calls;
        number = refl;
      })

  -- what follows a round that closed
  pub closed_goes : (r : Round) {s : Server} → Amid f s → Goes f (left r.purpose) (closed n p i r s)
  unfolding closed is_proper
  closed_goes r {s} a = go r.purpose
    where
      go : (u : Purpose) →
          Goes f (left u)
          (elim u as (λ _. Reaction) [
            | recovery_read ↦ recovering n p i r.best.table s
            | recovery_write ↦ checking n p i s
            | check ↦ after_read n p i s
            | own_write ↦ finish i done s
          ])
      go recovery_read = recovering_goes r.best.table a
      go recovery_write = checking_goes a
      go check = after_read_goes a
      go own_write = finish_goes 0 done refl a
