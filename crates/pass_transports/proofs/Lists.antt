-- What a caller reads of the slice where no edge is refused, and points that are given by lists. Assumes nothing.
use Prim.Native.Nat.{ℕ, ◌+◌, ◌<◌}
use native.Mathlib.Nat.{zero-add}
use native.Mathlib.Omega.{arith}
use mathlib.Core.Path.{◌≡◌, refl, sym, ap, ◌∙◌}
use mathlib.Core.Bool.{Bool, true, false, cond}
use mathlib.Core.List.{List}
use borrow.Author.Tests.{lt-ltb, ltb-false}
use lib.Dec.{ltb}
use lib.ListN.{length, get_or}
use lib.Ieee.{Float, nan}
use Rattle.std.specs.Prelude.{Ok}
use Rattle.complex.specs.declared.Complex.{Complex}
use Rattle.floor.proofs.Lowest.{lowest-most, lowest-same}
use Rattle.linear_cells.specs.Region.{region}
use Rattle.linear_cells.specs.Cell.{region_c, put_c}
use Rattle.linear_cells.proofs.Loops.{apart, length-tab, tab-ext}
use Rattle.linear_cells.proofs.Regions.{get_or-region}
use Rattle.linear_cells.proofs.Cells.{length-region_c, region_c-put_c, put_c-else-real}
use Rattle.pass_transports.specs.declared.TransportsPlan.{TransportsPlan}
use Rattle.pass_transports.specs.Transports.{Points, points_of, end_of, transport_at, is_refused, coefficient, first_mean, coefficient_at, coefficients_of, refused_at, transports_answer, Answer}
use Rattle.pass_transports.specs.Work.{points_from, TransportsRoom, Ends, kept_to, Transported}

-- ---- accepted

done_first : (p : Points) (a b : List ℕ) → transports_answer p a b ≡ Ok tt → first_mean p a b (length a) ≡ length a
unfolding transports_answer first_mean
done_first p a b h = go (ltb (first_mean p a b (length a)) (length a)) refl h
  where
    go : (c : Bool) → ltb (first_mean p a b (length a)) (length a) ≡ c → cond c (refused_at a b (first_mean p a b (length a))) (Ok tt) ≡ Ok tt → first_mean p a b (length a) ≡ length a
    go true e h = let z : ◌≡◌ {A = ℕ} 0 1 = cc in absurd (omega arith)
    go false e h = omega (arith, ltb-false (first_mean p a b (length a)) (length a) e, lowest-most (λ e. is_refused (transport_at p a b e)) (length a))

all-kept : (p : Points) (a b : List ℕ) (v : List Complex) → length v ≡ length a → kept_to p a b (length a) v ≡ coefficients_of p a b
unfolding kept_to coefficients_of
all-kept p a b v k = rw k (tab-ext _ _ (length a) (λ e l. rw (lt-ltb e (length a) l)))

-- the vector of all coefficients, and nothing else
pub transported-all : (l : TransportsPlan) (a b : List ℕ) (w w' : List Float) {r : Answer} → Transported l a b w w' r → r ≡ Ok tt → w' ≡ put_c w l.transports (coefficients_of (points_from w l) a b)
transported-all l a b w w' t h =
    t.work
    ∙ rw (done_first (points_from w l) a b (sym t.result ∙ h))
    (ap (put_c w l.transports) (all-kept (points_from w l) a b (region_c w l.transports (length a)) (length-region_c w l.transports (length a))))

pub length-coefficients : (p : Points) (a b : List ℕ) → length (coefficients_of p a b) ≡ length a
unfolding coefficients_of
length-coefficients p a b = length-tab _ (length a)

pub transported-region : (l : TransportsPlan) (a b : List ℕ) (w w' : List Float) {r : Answer} → TransportsRoom (length w) l (length a) → Transported l a b w w' r → r ≡ Ok tt
    → region_c w' l.transports (length a) ≡ coefficients_of (points_from w l) a b
transported-region l a b w w' ok t h =
    ap (λ o. region_c o l.transports (length a)) (transported-all l a b w w' t h)
    ∙ region_c-put_c w l.transports (coefficients_of (points_from w l) a b) (length-coefficients (points_from w l) a b) ok.transports-in

-- what stands before the coefficients stays, whatever the answer
pub transported-before : (l : TransportsPlan) (a b : List ℕ) (w w' : List Float) {r : Answer} → Transported l a b w w' r → (j : ℕ) → j < l.transports → get_or w' j nan ≡ get_or w j nan
unfolding kept_to
transported-before l a b w w' t j h =
    let v : List Complex = region_c w l.transports (length a) in
    let kept : List Complex = kept_to (points_from w l) a b (first_mean (points_from w l) a b (length a)) v in
    let many : length kept ≡ length a = length-tab _ (length v) ∙ length-region_c w l.transports (length a) in
    ap (λ v. get_or v j nan) t.work ∙ (rw zero-add at (put_c-else-real w l.transports kept many 0 l.transports j (omega (arith, apart)) h))

-- ---- two lists of points that are the same below n

module _ (p q : Points) (n : ℕ) (a b : List ℕ) (g : Ends n a b) (h : (v : ℕ) → v < n → end_of p v ≡ end_of q v) where
  at_same : (e : ℕ) → e < length a → transport_at p a b e ≡ transport_at q a b e
  unfolding transport_at
  at_same e l = rw (h (get_or a e 0) (g.a-below e l), h (get_or b e 0) (g.b-below e l))

  first-same : first_mean p a b (length a) ≡ first_mean q a b (length a)
  unfolding first_mean
  first-same = lowest-same _ _ (length a) (λ e l. ap is_refused (at_same e l))

  pub answer-same : transports_answer p a b ≡ transports_answer q a b
  unfolding transports_answer
  answer-same = rw first-same

  pub coefficients-same : coefficients_of p a b ≡ coefficients_of q a b
  unfolding coefficients_of coefficient_at
  coefficients-same = tab-ext _ _ (length a) (λ e l. ap coefficient (at_same e l))

-- n points stand in the slice
pub record Holds (w : List Float) (l : TransportsPlan) (xs ys sizes gxs gys : List Float) : Type 0 where
  pub all-x : region nan w l.x l.points ≡ xs
  pub all-y : region nan w l.y l.points ≡ ys
  pub all-sizes : region nan w l.sizes l.points ≡ sizes
  pub all-gx : region nan w l.gradients l.points ≡ gxs
  pub all-gy : region nan w (l.gradients + l.points) l.points ≡ gys

pub ends-lists : (w : List Float) (l : TransportsPlan) (xs ys sizes gxs gys : List Float) → Holds w l xs ys sizes gxs gys → (v : ℕ) → v < l.points
    → end_of (points_from w l) v ≡ end_of (points_of xs ys sizes gxs gys) v
unfolding end_of points_from points_of
ends-lists w l xs ys sizes gxs gys h v k =
    rw (plane l.x xs h.all-x, plane l.y ys h.all-y, plane l.sizes sizes h.all-sizes, plane l.gradients gxs h.all-gx, plane (l.gradients + l.points) gys h.all-gy)
  where
    plane : (b : ℕ) (vs : List Float) → region nan w b l.points ≡ vs → get_or w (b + v) nan ≡ get_or vs v nan
    plane b vs q = sym (get_or-region w b l.points v nan k) ∙ ap (λ o. get_or o v nan) q
