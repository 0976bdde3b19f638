-- The order of a bucket's calls: along the versions from the initial one up to a given one, at each version the call whose own
-- write it is, then the calls that a check at it answered, by rising number.
use mathlib.Core.Path.{◌≡◌, refl, sym, ◌∙◌, ap}
use mathlib.Core.Logic.{inl, inr}
use mathlib.Core.Option.{Option, none, some}
use mathlib.Core.List.Memᴰ
use mathlib.Core.List.{List, [], ◌∷◌, ◌++◌, append_assoc, append-nil}
use Prim.Native.Nat.{ℕ}
use Rattle.history.specs.Members.{◌∈◌}
use Rattle.history.specs.Version.{Version, version}
use Rattle.history.specs.History.{Contents, Quorums, Write, History, Call, answered, Holds, first, later, Makes, kept, changed, Facts}
use Rattle.history.specs.Ordering.{Fed, Ordering}
use Rattle.history.proofs.MemberLaws.{none_in, each_append, clash}
use Rattle.history.proofs.VersionLaws.{same?}
use Rattle.history.proofs.Descent.{Ancestor, here, up, not_first}
use Rattle.history.proofs.Sequence.{Pairs, pairs_append, pairs_map, pairs_distinct, pairs_before, select, select_in, in_select, select_rising, select_joins}
use Rattle.history.proofs.Places.{bound, bound_above, Place, own, check, checked_at, checked_how, reached_at, answered_place, undone_nowhere}
use Rattle.history.proofs.RealTime.{Precedes, rises, own_first, by_number, precedes_other, ended_other, ended_first}

-- the call whose own write it is, if it is one
abbrev listed : Option ℕ → List ℕ
listed none = []
listed (some i) = i ∷ []

listed_in : (o : Option ℕ) (i : ℕ) → i ∈ listed o → o ≡ some i
listed_in none i m = none_in m
listed_in (some j) i (Memᴰ.head e) = ap some (sym e)
listed_in (some j) i (Memᴰ.tail m) = none_in m

in_listed : (o : Option ℕ) (i : ℕ) → o ≡ some i → i ∈ listed o
in_listed none i e = clash (cc)
in_listed (some j) i e = let d : i ≡ j = cc in Memᴰ.head d

listed_pairs : (R : ℕ → ℕ → Type 0) (o : Option ℕ) → Pairs R (listed o)
listed_pairs R none = tt
listed_pairs R (some i) = (λ j m. none_in m, tt)

is? : (o : Option Version) (v : Version) → Dec (o ≡ some v)
is? none v = no (λ e. clash (cc))
is? (some u) v = elim (same? u v) [ yes e ↦ yes (ap some e) | no g ↦ no (λ e. g (cc)) ]

module _ {Q : Quorums} {M : Contents} (h : History M) (f : Facts Q h) where
  -- the calls answered by a check at x
  answered_at : Version → List ℕ
  answered_at x = select (λ i. is? (checked_at h f i) x) (bound h.calls)

  -- the calls that stand at a write's version
  block : Write M → List ℕ
  block w = listed w.call ++ answered_at w.at

  -- an ancestor path down to the initial version, read upwards
  order : {x : Version} → Ancestor h (version 0 0) x → List ℕ
  order (here e) = answered_at (version 0 0)
  order (up w m e a) = order a ++ block w

  -- ---- who stands in it, and that it goes by precedence

  answered_check : (x : Version) (i : ℕ) → i ∈ answered_at x → checked_at h f i ≡ some x
  unfolding answered_at
  answered_check x i m = (select_in _ _ i m).1

  block_place : (w : Write M) → w ∈ h.writes → (i : ℕ) → i ∈ block w → Place h f i w.at
  unfolding block
  block_place w m =
      each_append (listed w.call) (λ i k. own w m (listed_in w.call i k) refl) (λ i k. check (answered_check w.at i k))

  order_place_lem : {x : Version} (p : Ancestor h (version 0 0) x) (i : ℕ) → i ∈ order p → (v : Version) × Ancestor h v x × Place h f i v
  unfolding order
  order_place_lem (here e) i m = (version 0 0, here e, check (answered_check (version 0 0) i m))
  order_place_lem {x} (up w n e a) i m =
      each_append {P = λ j. (v : Version) × Ancestor h v x × Place h f j v} (order a)
      (λ j k. let (v, b, q) = order_place_lem a j k in (v, up w n e b, q))
      (λ j k. (w.at, here e, block_place w n j k)) i m

  answered_pairs : (x : Version) → Pairs (Precedes h f) (answered_at x)
  unfolding answered_at
  answered_pairs x =
      pairs_map _ (select_rising _ (bound h.calls)) (λ i m j n l. by_number (answered_check x i m) (answered_check x j n) l)

  block_pairs : (w : Write M) → w ∈ h.writes → Pairs (Precedes h f) (block w)
  unfolding block
  block_pairs w m =
      pairs_append (listed w.call) (listed_pairs _ w.call) (answered_pairs w.at)
      (λ i k j n. own_first w m (listed_in w.call i k) (answered_check w.at j n))

  order_pairs : {x : Version} (p : Ancestor h (version 0 0) x) → Pairs (Precedes h f) (order p)
  unfolding order
  order_pairs (here e) = answered_pairs (version 0 0)
  order_pairs (up w m e a) =
      pairs_append (order a) (order_pairs a) (block_pairs w m)
      (λ i k j n. let (v, b, q) = order_place_lem a i k in rises q w m b (block_place w m j n))

  -- ---- whoever stands at an ancestor of its last version is in it

  in_answered : (x : Version) (c : Call M) → c ∈ h.calls → checked_at h f c.number ≡ some x → c.number ∈ answered_at x
  unfolding answered_at
  in_answered x c m e = in_select _ (bound h.calls) c.number (bound_above h.calls c m) e

  module _ (c : Call M) (m : c ∈ h.calls) where
    in_block : (w : Write M) → w ∈ h.writes → Place h f c.number w.at → c.number ∈ block w
    unfolding block
    in_block w n (own z k e a) = Memᴰ.append_left _ (in_listed w.call c.number (ap (λ y. y.call) (f.unique w z n k (sym a)) ∙ e))
    in_block w n (check e) = Memᴰ.append_right (listed w.call) (in_answered w.at c m e)

    in_first : Place h f c.number (version 0 0) → c.number ∈ answered_at (version 0 0)
    in_first (own z k e a) = absurd (not_first h f z k a)
    in_first (check e) = in_answered (version 0 0) c m e

    in_order : {v x : Version} (p : Ancestor h (version 0 0) x) → Ancestor h v x → Place h f c.number v → c.number ∈ order p
    unfolding order
    in_order (here e) (here d) q = in_first (rw (d ∙ sym e) at q)
    in_order (here e) (up z n d b) q = absurd (not_first h f z n (d ∙ sym e))
    in_order (up w n e a) (here d) q = Memᴰ.append_right (order a) (in_block w n (rw (d ∙ sym e) at q))
    in_order (up w n e a) (up z k d b) q = Memᴰ.append_left _ (in_order a (rw (f.unique z w k n (d ∙ sym e)) at b) q)

  write_holds : (w : Write M) → w ∈ h.writes → {t : M.Table} → Holds h w.at t → w.table ≡ t
  write_holds w m (first e _) = absurd (not_first h f w m e)
  write_holds w m (later z n e d) = ap (λ y. y.table) (f.unique w z m n (sym e)) ∙ d

  -- ---- a plain table answers it, also one that is fed further calls: `all` has those of this history among them

  module _ (all : List (Call M)) (into : (c : Call M) → c ∈ h.calls → c ∈ all) where
    -- fed the calls of k, the table goes from t to u, and they are answered as they were
    abbrev Feeds : M.Table → M.Table → List ℕ → Type 0
    Feeds t u k = (l : List ℕ) → Fed M all u l → Fed M all t (k ++ l)

    feeds_append : (s t u : M.Table) (k l : List ℕ) → Feeds s t k → Feeds t u l → Feeds s u (k ++ l)
    feeds_append s t u k l p q r g = rw append_assoc (p (l ++ r) (q r g))

    -- a call answered by a check changes nothing
    answered_feeds : (x : Version) (t : M.Table) → Holds h x t → Feeds t t (answered_at x)
    unfolding answered_at
    answered_feeds x t held = select_joins _ (Feeds t t) (λ l g. g) (feeds_append t t t) one (bound h.calls)
      where
        one : (i : ℕ) → checked_at h f i ≡ some x → Feeds t t (i ∷ [])
        one i e l g =
            let k = checked_how h f i x e in
            let there : Holds h k.how.check.at t = rw k.at held in
            (k.call, into k.call k.inside, k.number, λ line r d. k.how.right t there ∙ (cc), rw (k.how.unchanged t there) g)

    -- a call's own write is its effect, and a recovery changes nothing
    write_feeds : (w : Write M) → w ∈ h.writes → (t u : M.Table) → Holds h w.parent t → (o : Option ℕ) → w.call ≡ o → Makes h t u o → Feeds t u (listed o)
    write_feeds w m t u held none s (kept e) = λ l g. rw e at g
    write_feeds w m t u held (some _) s (changed c n e) = λ l g. (c, into c n, refl, right, rw e at g)
      where
        right : (line : ℕ) (r : M.Result) → c.end ≡ answered line r → M.answer c.words t ≡ r
        right line r d =
            elim (f.justified c n line r d) [
              | inl b ↦ b.right t (rw (f.once w b.write m b.made c.number s b.own) at held)
              | inr k ↦ absurd (k.unwritten w m s)
            ]

    order_feeds : {x : Version} {t : M.Table} (p : Ancestor h (version 0 0) x) → Holds h x t → Feeds M.empty t (order p)
    unfolding order block
    order_feeds (here e) (first _ d) = rw d (answered_feeds (version 0 0) M.empty (first refl refl))
    order_feeds (here e) (later w m d _) = absurd (not_first h f w m (d ∙ sym e))
    order_feeds (up w m e a) held =
        let o = f.origin w m in
        let own-call = write_feeds w m o.table w.table o.holds w.call refl o.makes in
        let others = answered_feeds w.at w.table (later w m refl refl) in
        rw (← write_holds w m (rw (sym e) at held))
        (feeds_append M.empty o.table w.table (order a) (block w) (order_feeds a o.holds)
        (feeds_append o.table w.table w.table (listed w.call) (answered_at w.at) own-call others))

  -- ---- the order of the calls up to a version

  -- the version of every answered call is an ancestor of x
  abbrev pub Reaches : Version → Type 0
  Reaches x =
      (c : Call M) → c ∈ h.calls → (line : ℕ) (r : M.Result) → c.end ≡ answered line r
      → (v : Version) → reached_at h f c.number ≡ some v → Place h f c.number v → Ancestor h v x

  pub ordered_to : {x : Version} {t : M.Table} → Ancestor h (version 0 0) x → Holds h x t → Reaches x → Ordering M h.calls
  ordered_to {x} p held above = record {
    order = order p;
    distinct = pairs_distinct (Precedes h f) (order p) (order_pairs p) (precedes_other h f);
    none_undone = λ c m i line e. undone_nowhere h f c m (order_place_lem p c.number i).2 line e;
    complete = λ c m line r e. let (v, d, q) = answered_place h f c m (line, r, e) in in_order c m p (above c m line r e v d q) q;
    in_real_time = λ c d m n i j line e l.
        pairs_before (Precedes h f) (order p) (order_pairs p) i j (ended_other h f c d m n line e l (order_place_lem p c.number i).2) (ended_first h f c d m n line e l);
    fed = rw append-nil at (order_feeds h.calls (λ c m. m) p held [] tt);
  }

  -- where the table at x answers the calls of l, the empty table answers those of this order and then those of l
  pub ordered_feeds : {x : Version} {t : M.Table} (p : Ancestor h (version 0 0) x) (held : Holds h x t) (above : Reaches x)
      (all : List (Call M)) → ((c : Call M) → c ∈ h.calls → c ∈ all) → (l : List ℕ) → Fed M all t l
      → Fed M all M.empty ((ordered_to p held above).order ++ l)
  unfolding ordered_to
  ordered_feeds p held above all into = order_feeds all into p held
