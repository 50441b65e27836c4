-- The starts in the order of preference, and those of them that pass.
use Rattle.std.proofs.Common.{◌≡◌, ℕ, zero, suc, ◌+◌, Bool, true, false, cond, not, ◌&&◌, eqb, List, [], ◌∷◌, ◌++◌, map, reverse, filter, All, Some, None, sym, refl, ap, ◌∙◌, subst, add-one, arith}
use Rattle.std.specs.List.{range_with_len}
use Rattle.std.proofs.lemmas.List.{reverse-append, map-id, append-nil}
use Rattle.std.proofs.lemmas.List.Elements.{All-nil, All-cons, All-head, All-tail, All-append, All-map}
use Rattle.std.proofs.lemmas.List.FromFn.{filter_of_map_range_with_len_more}
use Rattle.bitset.specs.declared.set.BaselineSet.{BaselineSet}
use Rattle.bitset.specs.Sets.{has, members, Highest}
use Rattle.bitset.proofs.Rising.{members_none, members_last, members_each}
use Rattle.evidence.specs.Table.{Table}
use Rattle.theory.specs.Search.{Start, between, passes, passing_below, passing, is_nil}
use Rattle.layout.specs.declared.order.Starts.{Starts}
use Rattle.layout.specs.declared.order.Starts.TheVariants.{All as Whole, Crossing}
use Rattle.layout.specs.Order.{starts_left, left, Found}

-- ---- which start is next

-- at first the one that crosses none
pub next_plain : (s : Starts) (crosses : BaselineSet) → s ≡ Whole crosses → starts_left s ≡ None ∷ starts_left (Crossing crosses)
unfolding starts_left
next_plain s crosses e = ap starts_left e

-- then the highest cross
pub next_cross : (s : Starts) (crosses rest : BaselineSet) (x : ℕ) → s ≡ Crossing crosses → Highest crosses.bits x
    → ((k : ℕ) → has rest.bits k ≡ (has crosses.bits k && not (eqb k x))) → starts_left s ≡ Some x ∷ starts_left (Crossing rest)
unfolding starts_left
next_cross s crosses rest x e high is =
    ap starts_left e
    ∙ ap (λ l. map Some (reverse l)) (members_last crosses.bits rest.bits x high is)
    ∙ ap (map Some) (reverse-append (members rest.bits) (x ∷ []))

-- and none where no cross is left
pub next_none : (s : Starts) (crosses : BaselineSet) → s ≡ Crossing crosses → crosses.bits ≡ 0 → starts_left s ≡ []
unfolding starts_left
next_none s crosses e z = ap starts_left e ∙ ap (λ l. map Some (reverse l)) (members_none crosses.bits z)

-- ---- all of them are starts

all_reverse : {A : Type 0} (P : A → Type 0) (xs : List A) → All P xs → All P (reverse xs)
all_reverse P [] all = All-nil P
all_reverse P (x ∷ xs) all =
    subst (All P) (sym (reverse-append (x ∷ []) xs))
    (All-append P (reverse xs) (x ∷ []) (all_reverse P xs (All-tail P x xs all)) (All-cons P x [] (All-head P x xs all) (All-nil P)))

pub all_starts : (t : Table) (r : ℕ) (crosses : BaselineSet) → crosses.bits ≡ between t r → All (Start t r) (starts_left (Whole crosses))
unfolding starts_left
all_starts t r crosses e =
    All-cons (Start t r) None _ tt
    (All-map (Start t r) Some (reverse (members crosses.bits))
    (all_reverse (λ x. Start t r (Some x)) (members crosses.bits)
    (members_each (λ x. Start t r (Some x)) crosses.bits (λ x _ h. ap (λ m. has m x) (sym e) ∙ h))))

-- ---- those that pass

-- what a test keeps of the numbers up to k
kept_more : (p : ℕ → Bool) (k : ℕ) → filter p (range_with_len 0 (suc k)) ≡ filter p (range_with_len 0 k) ++ cond (p k) (k ∷ []) []
kept_more p k =
    ap (λ n. filter p (range_with_len 0 n)) (sym (add-one k)) ∙ ap (filter p) (sym (map-id (range_with_len 0 (k + 1))))
    ∙ filter_of_map_range_with_len_more p (λ x. x) 0 k k (omega arith)
    ∙ ap (λ l. filter p l ++ cond (p k) (k ∷ []) []) (map-id (range_with_len 0 k))

-- with a cross below k
below_kept : (t : Table) (r k : ℕ)
    → passing_below t r k ≡ filter (passes t r) (map Some (reverse (filter (has (between t r)) (range_with_len 0 k))))
unfolding passing_below
below_kept t r zero = refl
below_kept t r (suc k) =
    ap (λ l. cond (has (between t r) k && passes t r (Some k)) (Some k ∷ l) l) (below_kept t r k)
    ∙ either (has (between t r) k) (filter (has (between t r)) (range_with_len 0 k))
    ∙ ap (λ l. filter (passes t r) (map Some (reverse l))) (sym (kept_more (has (between t r)) k))
  where
    either : (b : Bool) (xs : List ℕ)
        → cond (b && passes t r (Some k)) (Some k ∷ filter (passes t r) (map Some (reverse xs))) (filter (passes t r) (map Some (reverse xs)))
        ≡ filter (passes t r) (map Some (reverse (xs ++ cond b (k ∷ []) [])))
    either true xs = ap (λ l. filter (passes t r) (map Some l)) (sym (reverse-append xs (k ∷ [])))
    either false xs = ap (λ l. filter (passes t r) (map Some (reverse l))) (sym (append-nil xs))

-- all, in the order of preference
pub passing_kept : (t : Table) (r : ℕ) (crosses : BaselineSet) → crosses.bits ≡ between t r → passing t r ≡ filter (passes t r) (starts_left (Whole crosses))
unfolding passing starts_left members
passing_kept t r crosses e =
    ap (λ l. cond (passes t r None) (None ∷ l) l)
    (below_kept t r 64 ∙ ap (λ m. filter (passes t r) (map Some (reverse (filter (has m) (range_with_len 0 64))))) (sym e))

-- one is found just where one that passes is left
pub found_some : (t : Table) (r : ℕ) (s s' : Starts) (near : ℕ → ℕ) (found : Bool) → Found t r s s' near found → found ≡ not (is_nil (left t r s))
found_some t r s s' near true x = sym (ap (λ l. not (is_nil l)) x.1)
found_some t r s s' near false e = sym (ap (λ l. not (is_nil l)) e)
