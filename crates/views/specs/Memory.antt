-- The cluster's memory, and what it stands for in the definitions of crates/model. Every memory stands for something.
use Rattle.std.specs.Prelude.{◌≡◌, Bool, true, false, List, [], ◌∷◌, map, ℕ, zero, suc, leb, length}
use Rattle.std.proofs.Math.Option.{Option, none, some}
use Rattle.entries.specs.Entries.{Entry}
use Rattle.table.specs.Form.{table_of, within}
use Rattle.model.specs.Measures.{max_servers, max_buckets, max_messages, max_entries, max_value_bytes}
use Rattle.model.specs.Calls as calls
use Rattle.model.specs.Cluster as cluster
use Rattle.cells.specs.Cells.{Front, Cell}
use Rattle.server.specs.Views.{words_in}
use Rattle.memory.specs.declared.Counts.{Counts}
use Rattle.memory.specs.Layout.{server_room, queue_length, slot_of, head_at, version_at, round_at, call_at, words_at, counts_at, content_at}
use Rattle.messages.specs.Messages.{Sent, messages_at}
use Rattle.moves.specs.declared.Local.{Local}
use Rattle.moves.specs.Moves.{local_of}
use Rattle.moves.specs.Reactions.{front_in, cell_in, message_in}

-- the lent arrays: counts, heads of servers, slots, contents of copies, working contents, keys and values of calls, headers
-- of messages with their order, and their contents
pub record Memory : Type 0 where
  pub counts : List ℕ
  pub heads : List ℕ
  pub slots : List ℕ
  pub copies : List ℕ
  pub working : List ℕ
  pub texts : List ℕ
  pub queue : List ℕ
  pub payloads : List ℕ

abbrev pub memory : (counts heads slots copies working texts queue payloads : List ℕ) → Memory
memory c h s k w t q l = record { counts = c; heads = h; slots = s; copies = k; working = w; texts = t; queue = q; payloads = l }

pub record Sized (m : Memory) : Type 0 where
  pub counts : length m.counts ≡ 8
  pub heads : length m.heads ≡ 112
  pub slots : length m.slots ≡ 1792
  pub copies : length m.copies ≡ 7168
  pub working : length m.working ≡ 7168
  pub texts : length m.texts ≡ 3584
  pub queue : length m.queue ≡ queue_length
  pub payloads : length m.payloads ≡ 8192

-- f 0, f 1, .. of n numbers
unfoldable pub each : {A : Type 0} → ℕ → (ℕ → A) → List A
each zero f = []
each (suc n) f = f 0 ∷ each n (λ i. f (suc i))

-- ---- parts

-- the table of content i, whatever its bytes are
unfoldable pub table_at : List ℕ → ℕ → List Entry
table_at l i = table_of max_entries max_value_bytes (content_at l i)

abbrev pub local_at : Memory → ℕ → ℕ → Local
local_at m s k = local_of (head_at m.heads s) (version_at m.slots k) (round_at m.slots k) (call_at m.slots k)

-- one whose votes and marks have seven places
pub record WholeLocal (l : Local) : Type 0 where
  pub votes : length l.head.votes ≡ server_room
  pub marks : length l.round.marks ≡ server_room

abbrev pub call_words_at : Memory → ℕ → calls.Words
call_words_at m k = words_in (words_at m.slots m.texts k)

-- ---- servers, of n servers and so many buckets

unfoldable pub cell_at : ℕ → Memory → ℕ → ℕ → Cell
cell_at n m s k = cell_in n (local_at m s k) (table_at m.copies k) (table_at m.working k) (call_words_at m k)

abbrev pub server_of : Front → List Cell → cluster.Server
server_of f cs =
    record {
      stored = record { number = f.number; vote = f.vote; leader = f.leader; copies = map (λ c. c.copy) cs };
      volatile =
          record {
            role = f.role;
            votes = f.votes;
            last_round = f.last_round;
            rounds = map (λ c. c.round) cs;
            calls = map (λ c. c.call) cs;
          };
      stopped = f.stopped;
    }

unfoldable pub server_at : ℕ → ℕ → Memory → ℕ → cluster.Server
server_at n buckets m s = server_of (front_in n (head_at m.heads s)) (each buckets (λ b. cell_at n m s (slot_of s b)))

unfoldable pub servers_at : ℕ → ℕ → Memory → List cluster.Server
servers_at n buckets m = each n (λ s. server_at n buckets m s)

-- ---- messages

abbrev pub sent_in : Sent → cluster.Message
sent_in x = message_in x.header (table_of max_entries max_value_bytes x.content)

unfoldable pub flight_at : ℕ → List ℕ → List ℕ → List cluster.Message
flight_at c queue payloads = map sent_in (messages_at c queue payloads)

-- ---- the cluster: none unless its counts are within the measures (RULES, Measures 1 and 3)

unfoldable pub standing : Counts → Bool
standing c =
    elim (within max_servers c.servers) [
      | false ↦ false
      | true ↦
          elim (within max_buckets c.buckets) [ false ↦ false | true ↦ leb c.messages max_messages ]
    ]

abbrev pub cluster_at : Memory → cluster.Cluster
cluster_at m =
    let c = counts_at m.counts in
    record {
      servers = servers_at c.servers c.buckets m;
      buckets = c.buckets;
      messages = flight_at c.messages m.queue m.payloads;
      accepted = c.lines;
      calls = c.calls;
    }

unfoldable pub cluster_in : Memory → Option cluster.Cluster
cluster_in m = elim (standing (counts_at m.counts)) [ true ↦ some (cluster_at m) | false ↦ none ]
