-- What the tests say, and what follows for the layers. Assumes nothing.
use mathlib.Core.Path.{◌≡◌, refl, sym, ap, ◌∙◌}
use mathlib.Core.Bool.{Bool, true, false, ◌&&◌}
use mathlib.Core.List.{List}
use Prim.Native.Nat.{ℕ, ◌+◌, ◌*◌, ◌^◌, ◌≤◌, ◌<◌}
use native.Mathlib.Omega.{arith}
use borrow.Author.Tests.{ltb-true, lt-ltb, le-ltb, le-leb, lt-leb}
use lib.Dec.{ltb, leb}
use lib.ListN.{length, get_or}
use lib.Seq.{ext_get_or}
use lib.Ieee.{Float, nan}
use Rattle.linear_cells.specs.Region.{tab, region, put}
use Rattle.linear_cells.specs.Cell.{region_c, put_c}
use Rattle.linear_cells.proofs.Regions.{length-put, region-put, region-else}
use Rattle.linear_adjacency.specs.Adjacency.{Ends}
use Rattle.linear_adjacency.specs.Incidence.{are_edges}
use Rattle.linear_adjacency.proofs.Tests.{and-false, and-true, edges-ends}
use Rattle.linear_packing.specs.declared.Packing.{Packing}
use Rattle.linear_packing.specs.declared.Source.{Source}
use Rattle.linear_packing.specs.Slots.{entries_of}
use Rattle.linear_packing.specs.Packed.{Packed}
use Rattle.linear_packing.specs.Pack.{PackRoom, EntriesRoom, Interleaved, Ready, packed_in}
use Rattle.linear_packing.specs.Pack as pack
use Rattle.linear_packing.proofs.Whole.{ready, from-kept, to-kept, packed, length-with, reals-kept, cells-kept, matrix-kept}
use Rattle.linear_pairs.proofs.Product.{ends_of}
use Rattle.linear_cells.proofs.Loops.{apart, length-tab, get_or-tab}
use Rattle.linear_hermitian.specs.declared.Hermitian.{Hermitian}
use Rattle.linear_hermitian.specs.Work.{matrix, Graph, ApplyRoom}
use Rattle.linear_conjugate_gradient.specs.declared.Vectors.{Vectors}
use Rattle.std.specs.Prelude.{Option, Some, None, Result}
use Rattle.std.specs.Option.{is_some}
use Rattle.linear_conjugate_gradient.specs.declared.Reason.{Reason}
use Rattle.linear_conjugate_gradient.specs.Solve.{solved}
use Rattle.linear_conjugate_gradient.specs.Work.{read, lay, SolverRoom, Engine, Solved, InMass}
use Rattle.linear_layers.specs.Checked.{good, roomy, matrix_for, vectors_for, packing_for, source_for, ends_for, numbers_for, entries_for, outcome, Runs, tested}
use Rattle.linear_layers.specs.Checked.{solved_work, solved_numbers, solved_answer, SolveChecked, SolveTold, normal_work, normal_answer, NormalChecked}

module _ (n : ℕ) (from to : List ℕ) where
  -- ---- the slices

  pub good-short : (len : ℕ) → len < 10 * n + 6 * length from → false ≡ good len n from to
  unfolding good
  good-short len l = rw (lt-leb (10 * n + 6 * length from) len l)

  pub good-edges : (len : ℕ) → 10 * n + 6 * length from ≤ len → {r : Bool} → r ≡ are_edges n from to → r ≡ good len n from to
  unfolding good
  good-edges len h er = rw (le-leb (10 * n + 6 * length from) len h) er

  abbrev h : Hermitian
  h = matrix_for n (length from)

  abbrev l : Vectors
  l = vectors_for n (length from)

  module _ (len : ℕ) (g : good len n from to ≡ true) where
    parts : (leb (10 * n + 6 * length from) len ≡ true) × (are_edges n from to ≡ true)
    unfolding good
    parts = and-true (leb (10 * n + 6 * length from) len) (are_edges n from to) g

    pub fits : 10 * n + 6 * length from ≤ len
    fits = borrow.Author.Tests.leb-true (10 * n + 6 * length from) len parts.0

    ends : Ends n from to
    ends = edges-ends n from to parts.1

    pub room : SolverRoom len h l
    unfolding matrix_for vectors_for
    room = omega (arith, fits)

    pub apply-room : ApplyRoom len h l.x l.direction
    unfolding matrix_for vectors_for
    apply-room = omega (arith, apart, fits)

    pub graph : Graph h from to
    unfolding matrix_for
    graph = record {
      all-a = refl;
      all-b = ends.paired;
      a-below = ends.a-below;
      b-below = λ k m. ends.b-below k (rw ends.paired at m);
      different = ends.different;
    }

-- ---- a list that is stored element by element

tab-get_or : (l : List ℕ) {n : ℕ} → length l ≡ n → tab (λ j. get_or l j 0) n ≡ l
tab-get_or l {n} e = ext_get_or 0 _ l (length-tab _ n ∙ sym e) (λ i h. get_or-tab _ n i 0 (omega (arith, length-tab (λ j. get_or l j 0) n)))

-- ---- the numbers of the packed copy

module _ (len n m : ℕ) where
  pub roomy-rows : 2 ^ 32 ≤ n → false ≡ roomy len n m
  unfolding roomy
  roomy-rows h = rw (le-ltb n (2 ^ 32) h)

  pub roomy-edges : 2 ^ 30 ≤ m → false ≡ roomy len n m
  unfolding roomy
  roomy-edges h = rw (le-ltb m (2 ^ 30) h) (sym (and-false (ltb n (2 ^ 32))))

  pub roomy-words : n < 2 ^ 32 → m < 2 ^ 30 → leb (2 * n + 1 + 6 * m) len ≡ roomy len n m
  unfolding roomy
  roomy-words h g = rw (lt-ltb n (2 ^ 32) h, lt-ltb m (2 ^ 30) g)

  module _ (r : roomy len n m ≡ true) where
    roomy-parts : (ltb n (2 ^ 32) ≡ true) × (ltb m (2 ^ 30) ≡ true) × (leb (2 * n + 1 + 6 * m) len ≡ true)
    unfolding roomy
    roomy-parts =
        let p = and-true (ltb n (2 ^ 32)) (ltb m (2 ^ 30) && leb (2 * n + 1 + 6 * m) len) r in
        let q = and-true (ltb m (2 ^ 30)) (leb (2 * n + 1 + 6 * m) len) p.1 in
        (p.0, q.0, q.1)

    few-rows : n < 2 ^ 32
    few-rows = ltb-true n (2 ^ 32) roomy-parts.0

    few-edges : m < 2 ^ 30
    few-edges = ltb-true m (2 ^ 30) roomy-parts.1

    pub counted : (n < 2 ^ 32) × (m < 2 ^ 32)
    counted = (few-rows, omega (arith, few-edges))

    pub words-in : 2 * n + 1 + 6 * m ≤ len
    words-in = borrow.Author.Tests.leb-true (2 * n + 1 + 6 * m) len roomy-parts.2

    pub pack-room : PackRoom len (packing_for n m) (source_for n m)
    pack-room = record {
      few = few-rows;
      narrow = omega (arith, few-edges);
      all = refl;
      behind = omega arith;
      neighbours-in = omega arith;
      halves_in = omega arith;
      from_in = omega arith;
      to_in = omega arith;
      marks-in = omega (arith, words-in);
      small = omega (arith, few-rows, few-edges);
    }

module _ (u : List ℕ) (n : ℕ) (from to : List ℕ) (r : roomy (length u) n (length from) ≡ true) (g : Graph (matrix_for n (length from)) from to) where
  abbrev t : Packing
  t = packing_for n (length from)

  abbrev s : Source
  s = source_for n (length from)

  as_many : length to ≡ length from
  unfolding matrix_for
  as_many = g.all-b

  ends-length : length (ends_for u n from to) ≡ length u
  ends-length = length-put _ s.to to ∙ length-put u s.from from

  lower : pack.from_list s (ends_for u n from to) ≡ from
  lower =
      region-else (put u s.from from) s.to to as_many 0 s.from (length from) (apart s.to (length from) s.from (length from) (omega arith))
      ∙ region-put u s.from from refl 0 (omega (arith, words-in (length u) n (length from) r))

  upper : pack.to_list s (ends_for u n from to) ≡ to
  upper = region-put (put u s.from from) s.to to as_many 0 (omega (arith, words-in (length u) n (length from) r, length-put u s.from from))

  room-ends : PackRoom (length (ends_for u n from to)) t s
  room-ends = rw ends-length (pack-room (length u) n (length from) r)

  ends-are : Ends n (pack.from_list s (ends_for u n from to)) (pack.to_list s (ends_for u n from to))
  unfolding matrix_for
  ends-are = rw (lower, upper) (ends_of (matrix_for n (length from)) from to n refl g)

  -- by what the code has for the copy's places
  module _ {t' : Packing} (et : t' ≡ t) {s' : Source} (es : s' ≡ s) where
    pub from-fits : s'.from + length from ≤ length u
    from-fits = rw es (omega (arith, words-in (length u) n (length from) r))

    pub to-fits : {u₁ : List ℕ} → u₁ ≡ put u s'.from from → s'.to + length to ≤ length u₁
    to-fits e = rw es (omega (arith, words-in (length u) n (length from) r, as_many, ap length e ∙ length-put u s'.from from))

    module _ {u₁ u₂ : List ℕ} (e₁ : u₁ ≡ put u s'.from from) (e₂ : u₂ ≡ put u₁ s'.to to) where
      ends-laid : u₂ ≡ ends_for u n from to
      ends-laid = e₂ ∙ rw (e₁, es)

      pub pack-needs : PackRoom (length u₂) t' s' × Ends t'.size (pack.from_list s' u₂) (pack.to_list s' u₂)
      pack-needs = rw (et, es, ends-laid) (room-ends, ends-are)

      pub edges-numbered : {u₃ : List ℕ} → u₃ ≡ packed_in t' s' u₂ → u₃ ≡ numbers_for u n from to
      unfolding numbers_for
      edges-numbered e₃ = e₃ ∙ rw (et, es, ends-laid)

  module _ {u₃ : List ℕ} (e : u₃ ≡ numbers_for u n from to) where
    packed_ends : u₃ ≡ packed_in t s (ends_for u n from to)
    unfolding numbers_for
    packed_ends = e

    pub numbers-ready : Ready u₃ t s
    numbers-ready = ready (ends_for u n from to) u₃ t s room-ends ends-are packed_ends

    pub numbers-from : pack.from_list s u₃ ≡ from
    numbers-from = from-kept (ends_for u n from to) u₃ t s room-ends ends-are packed_ends ∙ lower

    pub numbers-to : pack.to_list s u₃ ≡ to
    numbers-to = to-kept (ends_for u n from to) u₃ t s room-ends ends-are packed_ends ∙ upper

-- ---- a solve

module _ (w : List Float) (n : ℕ) (from to u : List ℕ) (tolerance : Float) (most : ℕ) (ok : good (length w) n from to ≡ true) (r : roomy (length u) n (length from) ≡ true) where
  abbrev m : ℕ
  m = length from

  pub edges-graph : Graph (matrix_for n m) from to
  edges-graph = graph n from to (length w) ok

  entries_fit : EntriesRoom (length w) (matrix_for n m) (packing_for n m) (source_for n m)
  unfolding matrix_for
  entries_fit = record {
    one-graph = refl;
    off-in = omega (arith, fits n from to (length w) ok);
    entries-in = omega (arith, fits n from to (length w) ok);
    entries-off = apart (n + 2 * m) (2 * (2 * m)) n (2 * m) (omega arith);
  }

  module _ {u₃ : List ℕ} (eu : u₃ ≡ numbers_for u n from to) where
    pub entries-needs : {h : Hermitian} {t : Packing} {s : Source} → h ≡ matrix_for n m → t ≡ packing_for n m → s ≡ source_for n m → Interleaved u₃ t s × EntriesRoom (length w) h t s
    entries-needs eh et es = rw (eh, et, es) ((numbers-ready u n from to r edges-graph eu).interleaved, entries_fit)

    module _ {w₁ : List Float} (ew : w₁ ≡ put_c w (n + 2 * m) (entries_of (matrix w (matrix_for n m) (pack.from_list (source_for n m) u₃) (pack.to_list (source_for n m) u₃)) n)) where
      is_made : w₁ ≡ entries_for w n from to
      unfolding entries_for
      is_made = ew ∙ rw (numbers-from u n from to r edges-graph eu, numbers-to u n from to r edges-graph eu)

      all-length : length w₁ ≡ length w
      all-length = length-with u₃ (packing_for n m) (source_for n m) (numbers-ready u n from to r edges-graph eu) w (matrix_for n m) entries_fit ew

      same-cells : (c k : ℕ) → n + 6 * m ≤ c → region_c w₁ c k ≡ region_c w c k
      same-cells c k z = cells-kept u₃ (packing_for n m) (source_for n m) (numbers-ready u n from to r edges-graph eu) w (matrix_for n m) entries_fit ew c k (apart (n + 2 * m) (2 * (2 * m)) c (2 * k) (omega arith))

      same-reals : (c k : ℕ) → n + 6 * m ≤ c → region nan w₁ c k ≡ region nan w c k
      same-reals c k z = reals-kept u₃ (packing_for n m) (source_for n m) (numbers-ready u n from to r edges-graph eu) w (matrix_for n m) entries_fit ew c k (apart (n + 2 * m) (2 * (2 * m)) c k (omega arith))

      same-matrix : matrix w₁ (matrix_for n m) from to ≡ matrix w (matrix_for n m) from to
      unfolding matrix_for
      same-matrix =
          matrix-kept u₃ (packing_for n m) (source_for n m) (numbers-ready u n from to r edges-graph eu) w (matrix_for n m) entries_fit ew (matrix_for n m)
          (apart (n + 2 * m) (2 * (2 * m)) 0 n (omega arith)) (apart (n + 2 * m) (2 * (2 * m)) n (2 * m) (omega arith)) from to

      same-state : read w₁ n (vectors_for n m) ≡ read w n (vectors_for n m)
      unfolding read vectors_for
      same-state =
          let x = same-cells (n + 6 * m) n (omega arith) in
          let y = same-cells (n + 6 * m + 2 * n) n (omega arith) in
          let p = same-cells (n + 6 * m + 2 * n + 2 * n) n (omega arith) in
          let q = same-cells (n + 6 * m + 2 * n + 2 * n + 2 * n) n (omega arith) in
          let v = same-reals (n + 6 * m + 2 * n + 2 * n + 2 * n + 2 * n) n (omega arith) in
          λ i. record { x = x i; r = y i; p = p i; q = q i; inverse = v i }

      made-packed : Packed (matrix w (matrix_for n m) from to) w₁ u₃ (packing_for n m)
      made-packed =
          rw (numbers-from u n from to r edges-graph eu, numbers-to u n from to r edges-graph eu) at
          (packed u₃ (packing_for n m) (source_for n m) (numbers-ready u n from to r edges-graph eu) w (matrix_for n m) entries_fit ew)

      engine : Engine w₁ (matrix_for n m) (vectors_for n m) from to u₃ (packing_for n m)
      unfolding matrix_for vectors_for
      engine =
          let p = (numbers-ready u n from to r edges-graph eu).interleaved.room in
          record {
            room = record {
              one_size = refl;
              entries_below = omega arith;
              starts-in = omega (arith, p.behind, p.neighbours-in, p.halves_in, p.from_in, p.to_in, p.marks-in);
              neighbours-in = omega (arith, p.neighbours-in, p.halves_in, p.from_in, p.to_in, p.marks-in);
              marks-in = p.marks-in;
            };
            packed = rw same-matrix made-packed;
          }

      pub gradient-needs : SolverRoom (length w₁) (matrix_for n m) (vectors_for n m) × (Graph (matrix_for n m) from to × Engine w₁ (matrix_for n m) (vectors_for n m) from to u₃ (packing_for n m))
      gradient-needs = (rw all-length (room n from to (length w) ok), (edges-graph, engine))

      pub runs-made : {w₂ : List Float} {a : Result ℕ Reason} → Solved w₁ w₂ n (vectors_for n m) (solved (matrix w₁ (matrix_for n m) from to) tolerance most (read w₁ n (vectors_for n m))) a
          → Runs w w₂ n from to u u₃ tolerance most a
      unfolding outcome
      runs-made {w₂} {a} z =
          let k = rw (same-matrix, same-state) at z in
          record { work = k.work ∙ ap (λ x. lay x n (vectors_for n m) (solved (matrix w (matrix_for n m) from to) tolerance most (read w n (vectors_for n m))).state) is_made; numbers = eu; result = k.result }

    -- by what the code has for all places
    module _ {h : Hermitian} (eh : h ≡ matrix_for n m) {l : Vectors} (el : l ≡ vectors_for n m) {t : Packing} (et : t ≡ packing_for n m) {s : Source} (es : s ≡ source_for n m)
        {w₁ : List Float} (ew : w₁ ≡ put_c w t.entries (entries_of (matrix w h (pack.from_list s u₃) (pack.to_list s u₃)) t.size)) where
      entries-made : w₁ ≡ put_c w (n + 2 * m) (entries_of (matrix w (matrix_for n m) (pack.from_list (source_for n m) u₃) (pack.to_list (source_for n m) u₃)) n)
      entries-made = ew ∙ rw (eh, et, es)

      pub run-gradient : SolverRoom (length w₁) h l × (Graph h from to × Engine w₁ h l from to u₃ t)
      run-gradient = rw (eh, el, et) (gradient-needs entries-made)

      pub run-made : {w₂ : List Float} {a : Result ℕ Reason} → Solved w₁ w₂ h.size l (solved (matrix w₁ h from to) tolerance most (read w₁ h.size l)) a → Runs w w₂ n from to u u₃ tolerance most a
      unfolding matrix_for
      run-made z = runs-made entries-made (rw (eh, el) at z)

-- ---- the answers

module _ (w : List Float) (n : ℕ) (from to u : List ℕ) (tolerance : Float) (most : ℕ) {b : Bool} (e : b ≡ good (length w) n from to) where
  not_good : b ≡ false → tested (length w) n from to (length u) ≡ false
  unfolding tested
  not_good t = rw (sym e ∙ t) refl

  pub solve-refused : b ≡ false → SolveChecked w w n from to u u tolerance most None
  unfolding solved_work solved_numbers solved_answer
  solve-refused t = record { work = rw (not_good t); numbers = rw (not_good t); result = rw (not_good t) }

  module _ (t : b ≡ true) {d : Bool} (f : d ≡ roomy (length u) n (length from)) where
    not-roomy : d ≡ false → tested (length w) n from to (length u) ≡ false
    unfolding tested
    not-roomy q = rw (sym e ∙ t, sym f ∙ q) refl

    all_tested : d ≡ true → tested (length w) n from to (length u) ≡ true
    unfolding tested
    all_tested q = rw (sym e ∙ t, sym f ∙ q) refl

    pub solve-roomless : d ≡ false → SolveChecked w w n from to u u tolerance most None
    unfolding solved_work solved_numbers solved_answer
    solve-roomless q = record { work = rw (not-roomy q); numbers = rw (not-roomy q); result = rw (not-roomy q) }

    pub run-needs : d ≡ true → (good (length w) n from to ≡ true) × (roomy (length u) n (length from) ≡ true)
    run-needs q = (sym e ∙ t, sym f ∙ q)

    module _ (q : d ≡ true) {w₁ : List Float} {u₁ : List ℕ} {a : Result ℕ Reason} (z : Runs w w₁ n from to u u₁ tolerance most a) where
      pub solve-solved : SolveChecked w w₁ n from to u u₁ tolerance most (Some a)
      unfolding solved_work solved_numbers solved_answer
      solve-solved = record { work = rw (all_tested q) z.work; numbers = rw (all_tested q) z.numbers; result = rw (all_tested q) (ap Some z.result) }

-- the tests are passed just where there is a solution
module _ (w : List Float) (n : ℕ) (from to u : List ℕ) (tolerance : Float) (most : ℕ) {w₁ : List Float} {u₁ : List ℕ} {r : Option (Result ℕ Reason)} (z : SolveChecked w w₁ n from to u u₁ tolerance most r) where
  pub told : SolveTold w w₁ n from to u u₁ tolerance most (is_some r)
  unfolding solved_answer
  told = record { work = z.work; numbers = z.numbers; result = passed (tested (length w) n from to (length u)) z.result }
    where
      passed : (b : Bool) → r ≡ solved_answer b w n from to tolerance most → is_some r ≡ b
      passed true f = rw f
      passed false f = rw f

module _ (w : List Float) (n : ℕ) (from to : List ℕ) (tolerance : Float) (most : ℕ) {b : Bool} (e : b ≡ good (length w) n from to) where
  pub normalize-refused : b ≡ false → NormalChecked w w n from to None
  unfolding normal_work normal_answer
  normalize-refused t = record { work = rw (sym e ∙ t); result = rw (sym e ∙ t) }

  pub normalize-normal : b ≡ true → {h : Hermitian} {l : Vectors} {w₁ : List Float} {a : Result (Unit {0}) Reason} → h ≡ matrix_for n (length from) → l ≡ vectors_for n (length from)
      → InMass w w₁ l.x l.direction h.size (matrix w h from to) a
      → NormalChecked w w₁ n from to (Some a)
  unfolding normal_work normal_answer matrix_for
  normalize-normal t eh el s = record { work = rw (sym e ∙ t) (s.work ∙ rw (eh, el)); result = rw (sym e ∙ t) (ap Some (s.result ∙ rw (eh, el))) }

-- what the callees require, from the test's answer
module _ (len n : ℕ) (from to : List ℕ) {b : Bool} (e : b ≡ good len n from to) (t : b ≡ true) where
  pub small : 10 * n + 6 * length from ≤ len
  small = fits n from to len (sym e ∙ t)

  pub normalize-needs : {h : Hermitian} {l : Vectors} → h ≡ matrix_for n (length from) → l ≡ vectors_for n (length from) → ApplyRoom len h l.x l.direction × Graph h from to
  normalize-needs eh el = (rw (eh, el) (apply-room n from to len (sym e ∙ t)), rw eh (graph n from to len (sym e ∙ t)))
