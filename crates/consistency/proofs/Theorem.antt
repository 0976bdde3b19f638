-- Demand 3: every script has, for each bucket, one order of its calls (the statement is in Statement.antt).
use mathlib.Core.Path.{◌≡◌, refl, sym, ◌∙◌, ap, subst}
use mathlib.Core.List.Memᴰ
use mathlib.Core.List.{List, [], ◌∷◌}
use mathlib.Core.Option.{Option}
use Prim.Native.Nat.{ℕ}
use Rattle.entries.specs.Entries.{Entry}
use Rattle.model.specs.Calls.{Result, value, listed, done, mismatch, full, notdone, unknown}
use Rattle.model.specs.Cluster.{Cluster}
use Rattle.history.specs.Members.{◌∈◌}
use Rattle.history.specs.History.{Call, answered}
use Rattle.history.specs.History as H
use Rattle.history.specs.Ordering.{Ordering, by_unknown, by_notdone, by_answer, EndedIn}
use Rattle.history.specs.Ordering as O
use Rattle.history.proofs.MemberLaws.{none_in}
use Rattle.consistency.specs.Statement.{Begin, End, begins, ends, Distinct, Fed, OneOrder}
use Rattle.consistency.proofs.Log.{Begun, Log}
use Rattle.consistency.proofs.OneBucket.{history_of, call_of, end_by}
use Rattle.consistency.proofs.OneBucket
use Rattle.consistency.proofs.BucketMembers.{part_has, part_each, entry_found}
use Rattle.consistency.proofs.BucketOrder.{ordering_of}
use Rattle.consistency.proofs.PlainAgrees.{Alike, nothing_alike, plain_agrees}
use Rattle.consistency.proofs.Runs.{begin_of, end_of, Ran, ran_of, script_leaves}

-- ---- how a call ended

ended_in : (line : ℕ) (r : Result) → EndedIn (end_by line r) line
unfolding end_by
ended_in line (value v) = by_answer
ended_in line (listed l) = by_answer
ended_in line done = by_answer
ended_in line mismatch = by_answer
ended_in line full = by_answer
ended_in line notdone = by_notdone
ended_in line unknown = by_unknown

answered_by : (line : ℕ) (r : Result) → (r ≡ unknown → ⊥) → (r ≡ notdone → ⊥) → end_by line r ≡ answered line r
unfolding end_by
answered_by line (value v) u n = refl
answered_by line (listed l) u n = refl
answered_by line done u n = refl
answered_by line mismatch u n = refl
answered_by line full u n = refl
answered_by line notdone u n = absurd (n refl)
answered_by line unknown u n = absurd (u refl)

undone_by : (line : ℕ) → end_by line notdone ≡ H.End.notdone line
unfolding end_by
undone_by line = refl

distinct_too : (l : List ℕ) → O.Distinct l → Distinct l
distinct_too [] h = tt
distinct_too (i ∷ l) h = (h.0, distinct_too l h.1)

-- ---- from the log's order to the script's

module _ {cluster : Option Cluster} {log : Log} {bs : List Begin} {es : List End} (ran : Ran cluster log bs es) (b : ℕ) where
  abbrev calls : List (Call OneBucket.plain)
  calls = (history_of log b).calls

  order : Ordering OneBucket.plain calls
  order = ordering_of ran.servers ran.now ran.taken ran.facts b

  -- a call of the bucket is one that was taken there
  abbrev Comes : Call OneBucket.plain → Type 0
  Comes c = (y : Begun) × (y ∈ log.begins) × (y.bucket ≡ b) × (c ≡ call_of log.ends y)

  comes : (c : Call OneBucket.plain) → c ∈ calls → Comes c
  comes = part_each (λ y. y.bucket) (call_of log.ends) b log.begins Comes (λ y m e. (y, m, e, refl))

  -- what was printed for a call is how it ended
  printed_end : (y : End) → y ∈ es → OneBucket.end_of log.ends y.number ≡ end_by y.line y.result
  printed_end y m =
      let (z, i, e) = Memᴰ.of_map end_of log.ends (ran.same.ended y m) in
      subst (λ (x : End). OneBucket.end_of log.ends x.number ≡ end_by x.line x.result) e (entry_found log.ends ran.facts.calls.ended_once z i)

  call_end : (c : Call OneBucket.plain) → c ∈ calls → (y : End) → y ∈ es → y.number ≡ c.number → c.end ≡ end_by y.line y.result
  call_end c m y k e =
      let (z, i, f, g) = comes c m in
      ap (λ x. x.end) g ∙ ap (OneBucket.end_of log.ends) (sym (e ∙ ap (λ x. x.number) g)) ∙ printed_end y k

  -- what stands in the order is a call
  fed_call : (l : List ℕ) (t : List Entry) → O.Fed OneBucket.plain calls t l → (i : ℕ) → i ∈ l → (c : Call OneBucket.plain) × (c ∈ calls) × (c.number ≡ i)
  fed_call [] t h i m = none_in m
  fed_call (j ∷ l) t h i (Memᴰ.head e) = (h.0, h.1, h.2 ∙ sym e)
  fed_call (j ∷ l) t h i (Memᴰ.tail m) = fed_call l _ h.4 i m

  in_order : (i : ℕ) → i ∈ order.order → (c : Call OneBucket.plain) × (c ∈ calls) × (c.number ≡ i)
  in_order i m = fed_call order.order [] order.fed i m

  begin_of_lem : (c : Call OneBucket.plain) → c ∈ calls → (x : Begin) × (x ∈ bs) × (x.number ≡ c.number) × (x.bucket ≡ b) × (x.words ≡ c.words)
  begin_of_lem c m =
      let (y, i, e, f) = comes c m in
      (begin_of y, ran.same.begins _ (Memᴰ.map begin_of i), ap (λ z. z.number) (sym f), e, ap (λ z. z.words) (sym f))

  -- an accepted call of the bucket
  call_of_lem : (x : Begin) → x ∈ bs → x.bucket ≡ b → (c : Call OneBucket.plain) × (c ∈ calls) × (c.number ≡ x.number) × (c.begun ≡ x.line)
  call_of_lem x m e =
      let (y, i, f) = Memᴰ.of_map begin_of log.begins (ran.same.begun x m) in
      (call_of log.ends y, part_has (λ z. z.bucket) (call_of log.ends) b log.begins i (ap (λ z. z.bucket) f ∙ e), ap (λ z. z.number) f, ap (λ z. z.line) f)

  -- a call has one number and one bucket
  same_bucket : (x : Begin) → x ∈ bs → (c : Call OneBucket.plain) → c ∈ calls → x.number ≡ c.number → x.bucket ≡ b
  same_bucket x m c k e =
      let (y, i, f) = Memᴰ.of_map begin_of log.begins (ran.same.begun x m) in
      let (z, j, g, h) = comes c k in
      let one : y ≡ z = ran.facts.calls.begun_once y z i j (ap (λ w. w.number) f ∙ e ∙ ap (λ w. w.number) h) in
      sym (ap (λ w. w.bucket) f) ∙ ap (λ w. w.bucket) one ∙ g

  -- no call of the order was printed as `notdone`
  not_undone : (c : Call OneBucket.plain) → c ∈ calls → c.number ∈ order.order → (y : End) → y ∈ es → y.number ≡ c.number → y.result ≡ notdone → ⊥
  not_undone c m in-it y k e r = order.none_undone c m in-it y.line (call_end c m y k e ∙ ap (end_by y.line) r ∙ undone_by y.line)

  -- the plain table and the machine's go alike through the calls
  fed_too : (l : List ℕ) (p t : List Entry) → Alike p t → ((i : ℕ) → i ∈ l → i ∈ order.order) → O.Fed OneBucket.plain calls t l → Fed bs es p l
  fed_too [] p t alike sub h = tt
  fed_too (i ∷ l) p t alike sub h =
      let c = h.0 in
      let (x, m, e, f, g) = begin_of_lem c h.1 in
      let (agrees, next) = plain_agrees c.words p t alike in
      let rest = fed_too l _ _ next (λ j k. sub j (Memᴰ.tail k)) h.4 in (
        x,
        m,
        e ∙ h.2,
        λ y k n u.
            let j : y.number ≡ c.number = n ∙ sym h.2 in
            let d = not_undone c h.1 (rw h.2 (sub i (Memᴰ.head refl))) y k j in
            rw g (agrees ∙ h.3 y.line y.result (call_end c h.1 y k j ∙ answered_by y.line y.result u d)),
        rw g rest,
      )

  pub one_order_of : OneOrder bs es b
  one_order_of =
      record {
        order = order.order;
        once = distinct_too order.order order.distinct;
        calls = λ i m.
            let (c, k, e) = in_order i m in
            let (x, n, f, g, w) = begin_of_lem c k in
            (x, n, f ∙ e, g);
        no_notdone = λ i m y k n r.
            let (c, j, e) = in_order i m in
            not_undone c j (rw e m) y k (n ∙ sym e) r;
        complete = λ x m e y k n u d.
            let (c, j, f, g) = call_of_lem x m e in
            rw (← f) (order.complete c j y.line y.result (call_end c j y k (n ∙ sym f) ∙ answered_by y.line y.result u d));
        in_real_time = λ i j m n y k e x o f before.
            let (c, p, g) = in_order i m in
            let (u, v, w) = in_order j n in
            let (d, q, r, t) = call_of_lem x o (same_bucket x o u v (f ∙ sym w)) in
            let ended : EndedIn c.end y.line = rw (call_end c p y k (e ∙ sym g)) (ended_in y.line y.result) in
            let first = order.in_real_time c d p q (rw g m) (rw (r, f) n) y.line ended (rw t before) in
            rw (← g, ← f, ← r) first;
        answered = fed_too order.order [] [] nothing_alike (λ i m. m) order.fed;
      }

-- ---- the theorem

-- for every list of lines, whatever stands in it, and for every bucket
pub one_order_for_every_script : (ls : List (List ℕ)) (b : ℕ) → OneOrder (begins ls) (ends ls) b
one_order_for_every_script ls b = one_order_of (ran_of (script_leaves ls)) b
