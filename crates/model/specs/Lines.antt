-- Script lines (RULES, Lines 8, Refusals, Messages, Tally): when a line is refused, and
-- what an accepted line does to the cluster, the messages and the tally.
use Rattle.std.specs.Prelude.{List, [], ◌∷◌, ◌++◌, Bool, true, false, not, ℕ, ◌+◌, ltb, leb, eqb, length, get_or, take, drop, set}
use Rattle.std.proofs.Math.Option.{Option, none, some}
use Rattle.table.specs.Form.{within}
use Rattle.model.specs.Measures.{max_servers, max_buckets, max_key_bytes, max_value_bytes, max_messages, max_accepted, max_election}
use Rattle.model.specs.Calls.{Words, bucket_for, Answer}
use Rattle.model.specs.Calls
use Rattle.model.specs.Cluster.{Role, follower, candidate, leading, Server, nack_vote, Message, Cluster, fresh_server, fresh_cluster, round_at, call_at}
use Rattle.model.specs.Stores.{put_stores, stores_of, is_broadcast}
use Rattle.model.specs.Leader.{Reaction, reaction, forgotten, cease, larger_number, begin_call, handle}
use Rattle.model.specs.Leader

pub data Line : Type 0 where
  cluster : ℕ → ℕ → Line
  elect : ℕ → Line
  call : ℕ → Words → Line
  deliver : ℕ → Line
  copy : ℕ → Line
  lose : ℕ → Line
  timeout : ℕ → ℕ → Line
  stop : ℕ → Line
  cut : ℕ → ℕ → Line
  start : ℕ → Line

-- the tally of messages: sent, copied, delivered, lost, in flight
pub record Tally : Type 0 where
  pub sent : ℕ
  pub copied : ℕ
  pub delivered : ℕ
  pub lost : ℕ
  pub count_in_flight : ℕ

-- what a script has made so far
pub record State : Type 0 where
  pub cluster : Option Cluster
  pub tally : Tally

abbrev pub initial_state : State
initial_state = record { cluster = none; tally = record { sent = 0; copied = 0; delivered = 0; lost = 0; count_in_flight = 0 } }

-- what a line gives: the number it is refused with, or the answers it prints
pub data Outcome : Type 0 where
  refusal : ℕ → Outcome
  printed : List Answer → Outcome

-- ---- parts of a cluster; what stands for one that is not there is never looked at

abbrev pub server_at : Cluster → ℕ → Server
server_at c s = get_or c.servers s (fresh_server 0 0)

abbrev pub message_at : Cluster → ℕ → Message
message_at c i = get_or c.messages i (record { sender = 0; receiver = 0; bucket = 0; election = 0; round = 0; body = nack_vote })

-- later messages move down
abbrev pub drop_at : {A : Type 0} → ℕ → List A → List A
drop_at i l = take i l ++ drop (i + 1) l

-- ---- refusals: for each line the conditions that bear on it, by rising number; the first that applies wins

pub record Condition : Type 0 where
  pub number : ℕ
  pub applies : Bool

abbrev pub when : ℕ → Bool → Condition
when r a = record { number = r; applies = a }

unfoldable pub first_of : List Condition → Option ℕ
first_of [] = none
first_of (x ∷ l) = elim x.applies [ true ↦ some x.number | false ↦ first_of l ]

unfoldable pub either : Bool → Bool → Bool
either true b = true
either false b = b

-- 3
unfoldable pub no_server : Cluster → ℕ → Bool
no_server c s = leb (length c.servers) s

unfoldable pub no_bucket : Cluster → ℕ → Bool
no_bucket c b = leb c.buckets b

unfoldable pub no_bucket_for : Cluster → Words → Bool
no_bucket_for c (Calls.get k) = false
no_bucket_for c (Calls.set k v) = false
no_bucket_for c (Calls.setif k e v) = false
no_bucket_for c (Calls.del k) = false
no_bucket_for c (Calls.keys b) = no_bucket c b

-- 4: a key has 1 to 8 bytes, a value, expected or new, at most 16
unfoldable pub bad_key : List ℕ → Bool
bad_key k = either (eqb (length k) 0) (ltb max_key_bytes (length k))

unfoldable pub bad_value : Option (List ℕ) → Bool
bad_value none = false
bad_value (some v) = ltb max_value_bytes (length v)

unfoldable pub bad_words : Words → Bool
bad_words (Calls.get k) = bad_key k
bad_words (Calls.set k v) = either (bad_key k) (bad_value v)
bad_words (Calls.setif k e v) = either (bad_key k) (either (bad_value e) (bad_value v))
bad_words (Calls.del k) = bad_key k
bad_words (Calls.keys b) = false

-- 5
unfoldable pub limit_reached : Cluster → Bool
limit_reached c = leb max_accepted c.accepted

-- 6
abbrev pub stopped_at : Cluster → ℕ → Bool
stopped_at c s = (server_at c s).stopped

-- 7
unfoldable pub no_message : Cluster → ℕ → Bool
no_message c i = leb (length c.messages) i

-- 8
unfoldable pub is_leading : Role → Bool
is_leading follower = false
is_leading candidate = false
is_leading leading = true

-- 9 and 10
unfoldable pub present : {A : Type 0} → Option A → Bool
present none = false
present (some a) = true

-- 11: `top` is the greatest election number, here and in all names that end in `UpTo`
unfoldable pub last_number : ℕ → Cluster → ℕ → Bool
last_number top c s = leb top (larger_number (server_at c s).stored)

-- 18, of a cut: another kind of message, its server stopped, or more stores named than it makes
unfoldable pub bad_cut : Cluster → Message → ℕ → Bool
bad_cut c m k =
    either (not (is_broadcast m.body))
    (either (stopped_at c m.receiver) (ltb (length (stores_of m (server_at c m.receiver).stored)) k))

unfoldable pub conditions_up_to : ℕ → Cluster → Line → List Condition
conditions_up_to top c (cluster n b) = when 2 true ∷ []
conditions_up_to top c (elect s) =
    when 3 (no_server c s) ∷ when 5 (limit_reached c) ∷ when 6 (stopped_at c s) ∷ when 11 (last_number top c s) ∷ []
conditions_up_to top c (call s w) =
    when 3 (either (no_server c s) (no_bucket_for c w)) ∷
    when 4 (bad_words w) ∷
    when 5 (limit_reached c) ∷
    when 6 (stopped_at c s) ∷
    when 8 (not (is_leading (server_at c s).volatile.role)) ∷
    when 9 (present (call_at (server_at c s).volatile (bucket_for c.buckets w))) ∷
    []
conditions_up_to top c (deliver i) = when 5 (limit_reached c) ∷ when 7 (no_message c i) ∷ []
conditions_up_to top c (copy i) = when 5 (limit_reached c) ∷ when 7 (no_message c i) ∷ []
conditions_up_to top c (lose i) = when 5 (limit_reached c) ∷ when 7 (no_message c i) ∷ []
conditions_up_to top c (timeout s b) =
    when 3 (either (no_server c s) (no_bucket c b)) ∷
    when 5 (limit_reached c) ∷
    when 6 (stopped_at c s) ∷
    when 10 (not (present (round_at (server_at c s).volatile b))) ∷
    []
conditions_up_to top c (stop s) = when 3 (no_server c s) ∷ when 5 (limit_reached c) ∷ when 6 (stopped_at c s) ∷ []
conditions_up_to top c (cut i k) = when 5 (limit_reached c) ∷ when 7 (no_message c i) ∷ when 18 (bad_cut c (message_at c i) k) ∷ []
conditions_up_to top c (start s) = when 3 (no_server c s) ∷ when 5 (limit_reached c) ∷ when 18 (not (stopped_at c s)) ∷ []

abbrev pub conditions : Cluster → Line → List Condition
conditions = conditions_up_to max_election

-- ---- what an accepted line does

-- the cluster after it, what it adds to the tally, and the answers
pub record Work : Type 0 where
  pub cluster : Cluster
  pub sent : ℕ
  pub copied : ℕ
  pub delivered : ℕ
  pub lost : ℕ
  pub answers : List Answer

-- one more accepted line, with server s as its step left it and its messages at the end of the list
abbrev pub after_step : Cluster → ℕ → List Message → ℕ → Reaction → Cluster
after_step c s kept calls r =
    record {
      servers = set c.servers s r.server;
      buckets = c.buckets;
      messages = kept ++ r.sends;
      accepted = c.accepted + 1;
      calls = calls;
    }

-- a step that no message brings about
abbrev pub by_line : Cluster → ℕ → ℕ → Reaction → Work
by_line c s calls r =
    record {
      cluster = after_step c s c.messages calls r;
      sent = length r.sends;
      copied = 0;
      delivered = 0;
      lost = 0;
      answers = r.answers;
    }

-- a message that goes nowhere
abbrev pub lost_message : Cluster → List Message → ℕ → Work
lost_message c kept copied =
    record {
      cluster = record { servers = c.servers; buckets = c.buckets; messages = kept; accepted = c.accepted + 1; calls = c.calls };
      sent = 0;
      copied = copied;
      delivered = 0;
      lost = 1;
      answers = [];
    }

-- the step of the server that a message was handed to
abbrev pub delivered_to : Cluster → Message → List Message → ℕ → Reaction → Work
delivered_to c m kept copied r =
    record {
      cluster = after_step c m.receiver kept c.calls r;
      sent = length r.sends;
      copied = copied;
      delivered = 1;
      lost = 0;
      answers = r.answers;
    }

-- a message handed to its server, where one to a stopped server counts as lost; `kept` are the messages that stay
unfoldable pub delivery : Cluster → Message → List Message → ℕ → Work
delivery c m kept copied =
    elim (stopped_at c m.receiver) [
      | true ↦ lost_message c kept copied
      | false ↦ delivered_to c m kept copied (handle (length c.servers) m.receiver m (server_at c m.receiver))
    ]

abbrev pub halted : Server → Server
halted s = record { stored = s.stored; volatile = s.volatile; stopped = true }

-- stopped after the first k stores that the message makes, before any reply
abbrev pub cut_server : ℕ → Message → Server → Server
cut_server k m s = record { stored = put_stores (take k (stores_of m s.stored)) s.stored; volatile = s.volatile; stopped = true }

-- the message is counted as lost
abbrev pub cutting : Cluster → Message → List Message → ℕ → Work
cutting c m kept k =
    let after = after_step c m.receiver kept c.calls (reaction (cut_server k m (server_at c m.receiver)) [] []) in
    record { cluster = after; sent = 0; copied = 0; delivered = 0; lost = 1; answers = [] }

-- back with what was stored; the open calls are forgotten and never end
abbrev pub restarted : Server → Server
restarted s = record { stored = s.stored; volatile = forgotten s.volatile; stopped = false }

-- a second cluster line is refused with 2 and never comes here
unfoldable pub work : Cluster → Line → Work
work c (cluster n b) = by_line c 0 c.calls (reaction (server_at c 0) [] [])
work c (elect s) = by_line c s c.calls (Leader.elect (length c.servers) s (server_at c s))
work c (call s w) =
    by_line c s (c.calls + 1) (begin_call (length c.servers) s (bucket_for c.buckets w) (c.calls + 1) w (server_at c s))
work c (deliver i) = delivery c (message_at c i) (drop_at i c.messages) 0
work c (copy i) = delivery c (message_at c i) c.messages 1
work c (lose i) = lost_message c (drop_at i c.messages) 0
work c (timeout s b) = by_line c s c.calls (cease (server_at c s))
work c (stop s) = by_line c s c.calls (reaction (halted (server_at c s)) [] [])
work c (cut i k) = cutting c (message_at c i) (drop_at i c.messages) k
work c (start s) = by_line c s c.calls (reaction (restarted (server_at c s)) [] [])

-- ---- one line

abbrev pub tallied : Tally → Work → Tally
tallied t w =
    record {
      sent = t.sent + w.sent;
      copied = t.copied + w.copied;
      delivered = t.delivered + w.delivered;
      lost = t.lost + w.lost;
      count_in_flight = length w.cluster.messages;
    }

pub record LineResult : Type 0 where
  pub state : State
  pub outcome : Outcome

abbrev pub refuse : State → ℕ → LineResult
refuse s r = record { state = s; outcome = refusal r }

-- 12: the line as a whole would send more than there are places
unfoldable pub accept_line : State → Work → LineResult
accept_line s w =
    elim (leb (length w.cluster.messages) max_messages) [
      | false ↦ refuse s 12
      | true ↦
          record { state = record { cluster = some w.cluster; tally = tallied s.tally w }; outcome = printed w.answers }
    ]

unfoldable pub in_cluster_up_to : ℕ → State → Cluster → Line → LineResult
in_cluster_up_to top s c l = elim (first_of (conditions_up_to top c l)) [ some r ↦ refuse s r | none ↦ accept_line s (work c l) ]

abbrev pub in_cluster : State → Cluster → Line → LineResult
in_cluster = in_cluster_up_to max_election

-- 2: the first cluster line makes the cluster, if its numbers are in range; nothing else is taken before it
unfoldable pub create_cluster : State → Line → LineResult
create_cluster s (cluster n b) =
    elim (within max_servers n) [
      | false ↦ refuse s 2
      | true ↦
          elim (within max_buckets b) [
            | false ↦ refuse s 2
            | true ↦
                record { state = record { cluster = some (fresh_cluster n b); tally = s.tally }; outcome = printed [] }
          ]
    ]
create_cluster s (elect x) = refuse s 2
create_cluster s (call x w) = refuse s 2
create_cluster s (deliver i) = refuse s 2
create_cluster s (copy i) = refuse s 2
create_cluster s (lose i) = refuse s 2
create_cluster s (timeout x b) = refuse s 2
create_cluster s (stop x) = refuse s 2
create_cluster s (cut i k) = refuse s 2
create_cluster s (start x) = refuse s 2

unfoldable pub perform_up_to : ℕ → State → Line → LineResult
perform_up_to top s l = elim s.cluster [ none ↦ create_cluster s l | some c ↦ in_cluster_up_to top s c l ]

abbrev pub perform : State → Line → LineResult
perform = perform_up_to max_election
