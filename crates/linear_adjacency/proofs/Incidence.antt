-- The claim on the lists: as a reader of the slice finds them, they hold each edge once at each of its ends, in rising order. Assumes nothing.
use mathlib.Core.Path.{◌≡◌, refl, sym, ap, ◌∙◌}
use mathlib.Core.Bool.{Bool, true, false, cond}
use mathlib.Core.List.{List, [], ◌∷◌, ◌++◌}
use Prim.Native.Nat.{ℕ, zero, suc, ◌+◌, ◌-◌, ◌≤◌, ◌<◌}
use native.Mathlib.Decide.{ℕ_discrete, dec_le}
use native.Mathlib.Nat.{not-suc-le-zero, zero-add}
use native.Mathlib.Omega.{arith}
use borrow.Author.Tests.{eq-eqb, ne_eqb}
use lib.ListN.{length, get_or, length-append, get_or-append}
use lib.Seq.{get_or-append_seam}
use Rattle.linear_cells.specs.Region.{put}
use Rattle.linear_adjacency.specs.Adjacency.{meets, edges_at, degree, start_of, Ends, adjacency, Listed}
use Rattle.linear_adjacency.specs.Incidence.{list_in, times, Incidence, are_edges, has_room, listable, VertexLists}
use Rattle.linear_adjacency.proofs.Lists.{start_none, start-more, edges-below, listed_at}
use Rattle.linear_adjacency.proofs.Degrees.{start-all}
use Rattle.linear_adjacency.proofs.Stages.{built}
use Rattle.linear_adjacency.proofs.Tests.{edges-ends, room-lists, and-true}

-- ---- a list that grows by larger numbers

times-append : (e : ℕ) (xs ys : List ℕ) → times e (xs ++ ys) ≡ times e xs + times e ys
unfolding times
times-append e [] ys = sym (zero-add _)
times-append e (x ∷ xs) ys = rw (times-append e xs ys) (omega arith)

-- a number above all of a list is not in it
times_above : (e : ℕ) (xs : List ℕ) → ((k : ℕ) → k < length xs → get_or xs k 0 < e) → times e xs ≡ 0
unfolding times
times_above e [] h = refl
times_above e (x ∷ xs) h =
    let l : x < e = h 0 (omega arith) in
    rw (ne_eqb x e (λ z. omega arith), times_above e xs (λ k g. h (suc k) (omega arith)))

module _ (a b : List ℕ) (v : ℕ) where
  -- of the first m edges those at v rise
  rises : (m j k : ℕ) → j < k → k < length (edges_at a b v m) → get_or (edges_at a b v m) j 0 < get_or (edges_at a b v m) k 0
  unfolding edges_at
  rises zero j k l h = absurd (not-suc-le-zero h)
  rises (suc m) j k l h = rest (λ i. rises m j k l i) (meets a b v m) h
    where
      below : (i : ℕ) → i < length (edges_at a b v m) → get_or (edges_at a b v m) i 0 < m
      below i g = edges-below a b v m i (unfold degree in g)

      last : (k < length (edges_at a b v m) → get_or (edges_at a b v m) j 0 < get_or (edges_at a b v m) k 0) → k < length (edges_at a b v m ++ (m ∷ [])) → Dec (length (edges_at a b v m) ≤ k) → get_or (edges_at a b v m ++ (m ∷ [])) j 0 < get_or (edges_at a b v m ++ (m ∷ [])) k 0
      last old g (no f) = rw (get_or-append (edges_at a b v m) (m ∷ []) 0 j (omega arith), get_or-append (edges_at a b v m) (m ∷ []) 0 k (omega arith)) (old (omega arith))
      last old g (yes f) =
          let z : k ≡ length (edges_at a b v m) = omega (arith, length-append (edges_at a b v m) (m ∷ [])) in
          rw (z, get_or-append_seam, get_or-append (edges_at a b v m) (m ∷ []) 0 j (omega arith)) (below j (omega arith))

      rest : (k < length (edges_at a b v m) → get_or (edges_at a b v m) j 0 < get_or (edges_at a b v m) k 0) → (t : Bool) → k < length (cond t (edges_at a b v m ++ (m ∷ [])) (edges_at a b v m))
          → get_or (cond t (edges_at a b v m ++ (m ∷ [])) (edges_at a b v m)) j 0 < get_or (cond t (edges_at a b v m ++ (m ∷ [])) (edges_at a b v m)) k 0
      rest old false g = old g
      rest old true g = last old g (dec_le (length (edges_at a b v m)) k)

  -- and each of them is there once
  pub counted-once : (m e : ℕ) → e < m → times e (edges_at a b v m) ≡ cond (meets a b v e) 1 0
  counted-once zero e l = absurd (not-suc-le-zero l)
  counted-once (suc m) e l = rest (ℕ_discrete e m) (λ h. counted-once m e h)
    where
      above : times m (edges_at a b v m) ≡ 0
      above = times_above m (edges_at a b v m) (λ k g. edges-below a b v m k (unfold degree in g))

      one : times m (m ∷ []) ≡ 1
      one = unfold times in rw (eq-eqb m m refl)

      none : (e ≡ m → ⊥) → times e (m ∷ []) ≡ 0
      none f = unfold times in rw (ne_eqb m e (λ z. f (sym z)))

      new : (t : Bool) → times m (cond t (edges_at a b v m ++ (m ∷ [])) (edges_at a b v m)) ≡ cond t 1 0
      new true = times-append m (edges_at a b v m) (m ∷ []) ∙ rw (above, one)
      new false = above

      old : (e ≡ m → ⊥) → (t : Bool) → times e (cond t (edges_at a b v m ++ (m ∷ [])) (edges_at a b v m)) ≡ times e (edges_at a b v m)
      old f true = times-append e (edges_at a b v m) (m ∷ []) ∙ rw (none f) (omega arith)
      old f false = refl

      rest : Dec (e ≡ m) → (e < m → times e (edges_at a b v m) ≡ cond (meets a b v e) 1 0) → times e (edges_at a b v (suc m)) ≡ cond (meets a b v e) 1 0
      rest (yes z) more = rw z (unfold edges_at in new (meets a b v m))
      rest (no f) more =
          let same : times e (edges_at a b v (suc m)) ≡ times e (edges_at a b v m) = unfold edges_at in old f (meets a b v m) in
          same ∙ more (omega arith)

-- ---- as the slice holds them

module _ (n : ℕ) (a b l : List ℕ) (g : Ends n a b) (h : Listed a b n l 0) where
  pub begins : (v : ℕ) → v ≤ n → get_or l v 0 ≡ start_of a b (length a) v
  begins v k = ap (λ i. get_or l i 0) (sym (zero-add v)) ∙ h.starts v k

  -- the list of v that stands there
  pub list-is : (v : ℕ) → v < n → list_in l n v ≡ edges_at a b v (length a)
  unfolding list_in
  list-is v k =
      let next : get_or l (v + 1) 0 - get_or l v 0 ≡ degree a b v (length a) = omega (arith, begins v (omega arith), begins (v + 1) (omega arith), start-more a b (length a) v) in
      let at : n + 1 + get_or l v 0 ≡ 0 + (n + 1) + start_of a b (length a) v = omega (arith, begins v (omega arith)) in
      rw (next, at) (listed_at a b n l 0 h v k)

  pub incidence : Incidence n a b l
  incidence = record {
    rising = λ v k i j lt lj. rw (list-is v k) (rises a b v (length a) i j lt (rw (list-is v k) at lj));
    once = λ v k e le. rw (list-is v k) (counted-once a b v (length a) e le);
    edges = λ v k i li. rw (list-is v k) (edges-below a b v (length a) i (unfold degree in (rw (list-is v k) at li)));
    first = begins 0 (omega arith) ∙ start_none a b (length a);
    next = λ v k.
        let size : degree a b v (length a) ≡ length (edges_at a b v (length a)) = unfold degree in refl in
        rw (list-is v k) (omega (arith, size, begins v (omega arith), begins (v + 1) (omega arith), start-more a b (length a) v));
    all = begins n (omega arith) ∙ start-all a b n g;
  }

-- what the call that tests its slices leaves, where it makes the lists
pub vertex-lists : (n : ℕ) (a b l l' : List ℕ) → VertexLists n a b l l' true → Ends n a b × Listed a b n l' 0 × Incidence n a b l'
unfolding listable
vertex-lists n a b l l' q =
    let t = and-true (are_edges n a b) (has_room n (length a) (length l)) (sym q.made) in
    let g = edges-ends n a b t.0 in
    let p = room-lists n (length a) (length l) t.1 in
    let e : l' ≡ put l 0 (adjacency a b n) = q.lists ∙ rw (t.0, t.1) in
    let h = built a b n g l 0 p.room e in
    (g, h, incidence n a b l' g h)
