-- What a cluster line leaves.
use Rattle.std.specs.Prelude.{Ok, Err}
use Rattle.std.proofs.Common.{◌≡◌, ℕ, true, false, List}
use Rattle.table.specs.Form.{within}
use Rattle.model.specs.Measures.{max_servers, max_buckets}
use Rattle.memory.specs.Layout.{counts_at}
use Rattle.views.specs.Memory.{Memory, memory, standing}
use Rattle.runs.specs.Runs.{ran, fresh_memory, created_run, cluster_run}
use Rattle.refusals.specs.declared.Refusal.TheVariants.{ClusterWrong}
use Rattle.machine.specs.Steps.{Created, cluster_told}

module _ (m : Memory) (l : List ℕ) (n b : ℕ) where
  pub stands_already : standing (counts_at m.counts) ≡ true → ran m l (cluster_told (Err ClusterWrong)) ≡ cluster_run m l n b
  unfolding cluster_run cluster_told
  stands_already e = rw (cluster_run, e)

  pub too_many_servers : standing (counts_at m.counts) ≡ false → within max_servers n ≡ false → ran m l (cluster_told (Err ClusterWrong)) ≡ cluster_run m l n b
  unfolding cluster_run created_run cluster_told
  too_many_servers e s = rw (cluster_run, e, created_run, s)

  pub out_of_range : standing (counts_at m.counts) ≡ false → within max_servers n ≡ true → within max_buckets b ≡ false → ran m l (cluster_told (Err ClusterWrong)) ≡ cluster_run m l n b
  unfolding cluster_run created_run cluster_told
  out_of_range e s t = rw (cluster_run, e, created_run, s, t)

  pub made : (counts heads slots copies working texts queue payloads l' : List ℕ)
      → standing (counts_at m.counts) ≡ false → within max_servers n ≡ true → within max_buckets b ≡ true
      → Created m.counts m.queue n b counts heads slots copies queue × ((working ≡ m.working) × ((texts ≡ m.texts) × ((payloads ≡ m.payloads) × (l' ≡ l))))
      → ran (memory counts heads slots copies working texts queue payloads) l' (cluster_told (Ok tt)) ≡ cluster_run m l n b
  unfolding cluster_run created_run fresh_memory cluster_told
  made counts heads slots copies working texts queue payloads l' e s t y =
      let c = y.0 in
      rw (cluster_run, e, created_run, s, t, c.counted, c.heads, c.slots, c.copies, c.places, y.1.0, y.1.1.0, y.1.1.1.0, y.1.1.1.1)
