-- A leader's open rounds and calls stay in agreement with a log that grows, as long as none of its calls is written or ended.
use mathlib.Core.Path.{◌≡◌, refl}
use mathlib.Core.Option.{Option, none, some}
use Prim.Native.Nat.{ℕ}
use Rattle.model.specs.Cluster.{Version, Copy, Purpose, recovery_read, recovery_write, check, own_write, Round, Call}
use Rattle.consistency.proofs.Log.{Log, Grows}
use Rattle.consistency.proofs.Invariant.{Unwritten, Unended, PhaseOk, CallOk, RoundOk, BucketOk}
use Rattle.consistency.proofs.Growth.{holds_grows, chosen_grows}

-- call i is as it was: what was not its own write or its end is none still
pub record Untouched (a b : Log) (i : ℕ) : Type 0 where
  pub unwritten : Unwritten a i → Unwritten b i
  pub unended : Unended a i → Unended b i

module _ {a b : Log} (g : Grows a b) where
  abbrev pub call_grows : {p k : ℕ} {c : Call} → Untouched a b c.number → CallOk a p k c → CallOk b p k c
  call_grows u k = record { line = k.line; begun = g.begins _ k.begun; unended = u.unended k.unended }

  pub phase_grows : (n e k : ℕ) (x : Version) (copy : Copy) (r : Round) (c : Call) → Untouched a b c.number → (u : Purpose) → PhaseOk n a e k x copy r c u → PhaseOk n b e k x copy r c u
  phase_grows n e k x copy r c t recovery_read h =
      (h.0, h.1, t.unwritten h.2, holds_grows g h.3, h.4, λ i m. let y = h.5 i m in (y.0, g.reports _ y.1, y.2))
  phase_grows n e k x copy r c t recovery_write h = (h.0, h.1, h.2, t.unwritten h.3, λ i m. g.accepts _ (h.4 i m))
  phase_grows n e k x copy r c t check h =
      (h.0, h.1, h.2, t.unwritten h.3, chosen_grows g h.4, λ i m. let y = h.5 i m in (y.0, g.reports _ y.1, y.2))
  phase_grows n e k x copy r c t own_write h = (h.0, h.1, h.2, h.3, g.writes _ h.4, h.5, h.6, h.7, λ i m. g.accepts _ (h.8 i m))

  pub open_round_grows : {n p e k : ℕ} {copy : Copy} {r : Round} {c : Call} → Untouched a b c.number → RoundOk n a p e k copy r c → RoundOk n b p e k copy r c
  open_round_grows {n} {p} {e} {k} {copy} {r} {c} t h =
      record {
        call = call_grows t h.call;
        election = h.election;
        marks = h.marks;
        at = h.at;
        line = h.line;
        opened = g.rounds _ h.opened;
        after = h.after;
        phase = phase_grows n e k h.at copy r c t r.purpose h.phase;
      }

  pub bucket_grows : (n p e k : ℕ) (copy : Copy) (r : Option Round) (c : Option Call)
      → ((x : Call) → c ≡ some x → CallOk a p k x → Untouched a b x.number)
      → BucketOk n a p e k copy r c → BucketOk n b p e k copy r c
  bucket_grows n p e k copy none none t h = λ i. chosen_grows g (h i)
  bucket_grows n p e k copy none (some c) t h = h
  bucket_grows n p e k copy (some r) none t h = h
  bucket_grows n p e k copy (some r) (some c) t h = open_round_grows (t c refl h.call) h
