-- Counts of a cluster that stands, and what an accepted line has to agree in.
use Rattle.std.proofs.Common.{◌≡◌, ℕ, ◌≤◌, Bool, true, false, leb, List, length, sym, refl, ◌∙◌, arith, le-leb, leb-true}
use Rattle.std.specs.Prelude.{Ok}
use mathlib.Core.Option.{none, some}
use Rattle.entries.specs.Decoded.{table_in, value_bytes}
use Rattle.table.specs.Form.{within}
use Rattle.table.proofs.Fitting.{within_parts, within_from}
use Rattle.model.specs.Measures.{max_servers, max_buckets, max_messages}
use Rattle.model.specs.Lines as lines
use Rattle.memory.specs.declared.Counts.{Counts}
use Rattle.memory.specs.Layout.{counts_at}
use Rattle.views.specs.Memory.{Memory, standing, cluster_at, cluster_in}
use Rattle.views.specs.Changes.{answers_at}
use Rattle.plans.specs.Arrays.{Measured}
use Rattle.runs.specs.declared.Report.{Report}
use Rattle.runs.specs.Runs.{ran}
use Rattle.runs.specs.Meaning.{result_by, result_of}
use Rattle.runs.proofs.Accepting.{Ready}

-- ---- counts

pub standing_measured : (c : Counts) → standing c ≡ true → Measured c
unfolding standing
standing_measured c e = go (within max_servers c.servers) refl (within max_buckets c.buckets) refl (leb c.messages max_messages) refl
  where
    nothing : {A : Type 0} → standing c ≡ false → A
    nothing h = let z : ◌≡◌ {A = Bool} true false = sym e ∙ h in let y : ◌≡◌ {A = ℕ} 0 1 = cc in absurd (omega arith)

    go : (x : Bool) → within max_servers c.servers ≡ x → (y : Bool) → within max_buckets c.buckets ≡ y → (z : Bool) → leb c.messages max_messages ≡ z → Measured c
    go false a y b z d = nothing (rw (standing, a))
    go true a false b z d = nothing (rw (standing, a, b))
    go true a true b false d = nothing (rw (standing, a, b, d))
    go true a true b true d =
        let (p, q) = within_parts max_servers c.servers a in
        let (r, s) = within_parts max_buckets c.buckets b in
        record { some_servers = p; servers = q; some_buckets = r; buckets = s; messages = leb-true _ _ d }

pub measured_standing : (c : Counts) → Measured c → standing c ≡ true
unfolding standing
measured_standing c h =
    rw (standing, within_from {top = max_servers} {n = c.servers} h.some_servers h.servers, within_from {top = max_buckets} {n = c.buckets} h.some_buckets h.buckets)
    (le-leb _ _ h.messages)

pub measured : {m : Memory} {l : List ℕ} {t : lines.Tally} → Ready m l t → Measured (counts_at m.counts)
measured {m} ready = standing_measured (counts_at m.counts) ready.standing

-- ---- the cluster of a memory

pub standing_cluster : (m : Memory) → standing (counts_at m.counts) ≡ true → cluster_in m ≡ some (cluster_at m)
unfolding cluster_in
standing_cluster m e = rw (cluster_in, e)

pub no_cluster : (m : Memory) → standing (counts_at m.counts) ≡ false → cluster_in m ≡ none
unfolding cluster_in
no_cluster m e = rw (cluster_in, e)

-- ---- an accepted line

-- an accepted line, what it leaves and reports, is the work w of the definitions
pub record Does (w : lines.Work) (m : Memory) (l : List ℕ) (r : Report) : Type 0 where
  pub cluster : cluster_in m ≡ some w.cluster
  pub sent : r.sent ≡ w.sent
  pub copied : r.copied ≡ w.copied
  pub delivered : r.delivered ≡ w.delivered
  pub lost : r.lost ≡ w.lost
  pub messages : r.messages ≡ length w.cluster.messages
  pub few : r.messages ≤ 64
  pub answers : answers_at r.answers l (value_bytes r.effect.value) (table_in r.effect.table) ≡ w.answers

pub accepts_line : (s : lines.State) (w : lines.Work) (m : Memory) (l : List ℕ) (r : Report) → Does w m l r → lines.accept_line s w ≡ result_of s.tally (ran m l (Ok r))
unfolding lines.accept_line result_by
accepts_line s w m l r h =
    let room : leb (length w.cluster.messages) max_messages ≡ true = le-leb (length w.cluster.messages) max_messages (omega (arith, h.messages, h.few)) in
    rw (lines.accept_line, room, h.cluster, h.sent, h.copied, h.delivered, h.lost, h.messages, h.answers)

pub lacks_places : (s : lines.State) (w : lines.Work) → leb (length w.cluster.messages) max_messages ≡ false → lines.accept_line s w ≡ lines.refuse s 12
unfolding lines.accept_line
lacks_places s w e = rw (lines.accept_line, e)
