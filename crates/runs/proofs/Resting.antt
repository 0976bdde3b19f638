-- What a memory at rest holds: a cluster within the limits, and at the slot of a server and a bucket numbers below their limits, a table that fits, and a call where there is a round.
use Rattle.std.proofs.Common.{◌≡◌, ℕ, ◌+◌, ◌^◌, ◌<◌, ◌≤◌, Bool, true, false, List, length, sym, refl, ap, ◌∙◌, subst, arith}
use mathlib.Core.Option.{Option, none, some}
use Rattle.entries.specs.Entries.{Entry}
use Rattle.model.specs.Calls as calls
use Rattle.model.specs.Cluster as cluster
use Rattle.model.specs.Lines as lines
use Rattle.limits.proofs.Lists.{all_at}
use Rattle.model.specs.Measures.{max_election}
use Rattle.limits.specs.Measures.{Limits, limits_after, Fits, CopyWithin, WordsSized, SlotWithin, idle, busy, ServerWithin, ClusterWithin}
use Rattle.server.specs.declared.Round.{Round}
use Rattle.server.specs.declared.Call.{Call}
use Rattle.server.specs.Views.{among, round_in, call_in}
use Rattle.memory.specs.Layout.{slot_of, head_at, version_at, round_at, call_at, counts_at}
use Rattle.moves.specs.Reactions.{best_in}
use Rattle.views.specs.Memory.{Memory, table_at, call_words_at, server_at, servers_at, cluster_at}
use Rattle.views.proofs.Seen.{length_servers, server_there, copy_there, round_there, call_there}
use Rattle.runs.proofs.Accepting.{Ready}

-- ---- the cluster

pub cluster_within : {m : Memory} {l : List ℕ} {t : lines.Tally} → Ready m l t
    → ClusterWithin max_election (counts_at m.counts).servers (counts_at m.counts).buckets (counts_at m.counts).lines (cluster_at m)
cluster_within {m} ready =
    let c = counts_at m.counts in
    let h = ready.stands in
    let n : h.servers ≡ c.servers = sym h.within.size ∙ length_servers c.servers c.buckets m in
    let b : h.buckets ≡ c.buckets = sym h.within.buckets in
    subst (λ x. ClusterWithin max_election c.servers x c.lines (cluster_at m)) b (subst (λ x. ClusterWithin max_election x h.buckets c.lines (cluster_at m)) n h.within)

-- ---- a round and a call

-- what the limits say of the call of a round
abbrev CallOf : Limits → Option cluster.Round → Option cluster.Call → Type 0
CallOf l none p = Unit {0}
CallOf l (some r) none = ⊥
CallOf l (some r) (some c) = (c.rounds ≤ l.rounds) × WordsSized c.words

slot_call : {n b : ℕ} {l : Limits} {number i : ℕ} {o : Option cluster.Round} {p : Option cluster.Call} → SlotWithin n b l 0 number i o p → CallOf l o p
slot_call idle = tt
slot_call (busy r c) = (omega (arith, c.rounds), c.sizes)

-- an open call with its words
pub record OpenCall (l : Limits) (c : Call) (words : calls.Words) : Type 0 where
  pub live : among 5 c.kind ≡ true
  pub rounds : c.rounds ≤ l.rounds
  pub sizes : WordsSized words

opened : (l : Limits) (n : ℕ) (r : Round) (t : List Entry) (c : Call) (words : calls.Words) → CallOf l (round_in n r t) (call_in c words) → among 4 r.purpose ≡ true → OpenCall l c words
unfolding round_in call_in
opened l n r t c words h e = go (among 5 c.kind) refl
  where
    go : (z : Bool) → among 5 c.kind ≡ z → OpenCall l c words
    go true d = let (k, w) = (rw (round_in, call_in, e, d) at h) in record { live = d; rounds = k; sizes = w }
    go false d = absurd (rw (round_in, call_in, e, d) at h)

-- ---- the slot

module _ {m : Memory} {l : List ℕ} {t : lines.Tally} (ready : Ready m l t) (s b : ℕ) (server : s < (counts_at m.counts).servers) (bucket : b < (counts_at m.counts).buckets) where
  abbrev n : ℕ
  n = (counts_at m.counts).servers

  abbrev most : ℕ
  most = (counts_at m.counts).buckets

  abbrev limits : Limits
  limits = limits_after max_election (counts_at m.counts).lines

  server_within : ServerWithin n most limits 0 (server_at n most m s)
  server_within =
      let there : s < length (servers_at n most m) = rw (length_servers n most m) server in
      subst (ServerWithin n most limits 0) (server_there n most m s (cluster.fresh_server 0 0) server) (all_at s (cluster.fresh_server 0 0) there (cluster_within ready).servers)

  copy_within : CopyWithin limits 0 (cluster.copy_at (server_at n most m s).stored b)
  copy_within =
      let w = server_within.stored in
      all_at b cluster.fresh_copy (omega (arith, w.size)) w.copies

  last_there : (server_at n most m s).volatile.last_round ≡ (head_at m.heads s).last
  unfolding server_at
  last_there = refl

  pub last_low : (head_at m.heads s).last + 4 < 2 ^ 32
  last_low =
      let w = server_within.frame.last_round in
      let h = ready.stands.accepted in
      let e = last_there in
      omega arith

  pub counter_low : (version_at m.slots (slot_of s b)).counter + 1 < 2 ^ 32
  counter_low =
      let w : (cluster.copy_at (server_at n most m s).stored b).version.counter + 0 ≤ limits.rounds = copy_within.counter in
      let h = ready.stands.accepted in
      let e : (cluster.copy_at (server_at n most m s).stored b).version.counter ≡ (version_at m.slots (slot_of s b)).counter =
      ap (λ c. c.version.counter) (copy_there n most m s b bucket)
      in
      omega arith

  pub table_fits : Fits (table_at m.copies (slot_of s b))
  table_fits = subst Fits (ap (λ c. c.table) (copy_there n most m s b bucket)) copy_within.fitting

  pub call_open : among 4 (round_at m.slots (slot_of s b)).purpose ≡ true → OpenCall limits (call_at m.slots (slot_of s b)) (call_words_at m (slot_of s b))
  call_open =
      let k = slot_of s b in
      let r = round_at m.slots k in
      opened limits n r (best_in r (table_at m.working k)) (call_at m.slots k) (call_words_at m k)
      (rw (round_there n most m s b bucket, call_there n most m s b bucket) at (slot_call (server_within.slots b bucket)))
