-- A proper drawing is a layout of its own table, and the chosen layout groups the baselines that are not doubtful as drawn.
use Rattle.std.proofs.Common.{◌≡◌, ℕ, ◌<◌, false, cond, ◌≢◌, List, sym, ap, ◌∙◌, ⊎_elim, arith}
use Rattle.std.proofs.lemmas.Bool.{lt-ltb, ne_eqb}
use Rattle.std.proofs.lemmas.Bool.Decides.{nat_tests}
use Rattle.evidence.specs.Table.{Table, Sound}
use Rattle.evidence.specs.Drawing.{Entry, entries, entry, same_two, one_common, drawn, Proper, drawn_sound}
use Rattle.theory.specs.Layout.{Ends, in_common, Layout}
use Rattle.theory.specs.Groups.{Trio, Agree}
use Rattle.theory.specs.Clusters.{here, Doubtful}
use Rattle.theory.specs.Theorems.{DrawnBack}
use Rattle.theory.proofs.Trios.{trio_cases}
use Rattle.theory.proofs.Reaches.{trio_reach}
use Rattle.theory.proofs.Whole.{cluster_layout}

-- ---- A drawing is a layout

-- of entries with two different numbers each, not the same two, one number or none stands in both
one_or_none : (d e : Entry) → d.0 ≢ d.1 → e.0 ≢ e.1 → same_two d e ≡ false → in_common d e ≡ cond (one_common d e) 1 0
one_or_none d e h k apart = grind (arith, nat_tests)

-- different baselines of the drawing share where exactly one number stands in both entries
drawn_shares : (bytes : List ℕ) (i j : ℕ) → i < entries bytes → j < entries bytes → i ≢ j
    → (drawn bytes).shares i j ≡ one_common (entry bytes i) (entry bytes j)
drawn_shares bytes i j li lj ij = simp (lt-ltb i (entries bytes) li, lt-ltb j (entries bytes) lj, ne_eqb i j ij)

-- a proper drawing is a layout of its own table
pub drawn_layout : (bytes : List ℕ) → Proper bytes → Layout (drawn bytes) (entry bytes)
drawn_layout bytes proper = record {
  different = proper.different;
  meets = λ i j li lj ij.
      one_or_none (entry bytes i) (entry bytes j) (proper.different i li) (proper.different j lj) (proper.distinct i j li lj ij)
      ∙ sym (ap (λ b. cond b 1 0) (drawn_shares bytes i j li lj ij));
}

-- ---- What is not doubtful is grouped in one way

module _ (t : Table) (sound : Sound t) (i j k : ℕ) (li : i < t.count) (lj : j < t.count) (lk : k < t.count)
    (ij : i ≢ j) (jk : j ≢ k) (ik : i ≢ k) (certain : Doubtful t i → ⊥) where
  -- three that have a common imager in one layout have one in another: else the two would make their cluster doubtful
  certain_trio : {e f : ℕ → Ends} → Layout t e → Layout t f → Trio e i j k → Trio f i j k
  certain_trio {e} {f} fits_e fits_f h = ⊎_elim (λ x. x) (λ none. absurd (certain (doubt none))) (trio_cases f i j k)
    where
      doubt : (Trio f i j k → ⊥) → Doubtful t i
      doubt none =
          let reached = trio_reach t sound fits_e i j k li lj lk ij ik h in
          record {
            one = e;
            two = f;
            fits_one = cluster_layout t sound fits_e i li;
            fits_two = cluster_layout t sound fits_f i li;
            three = (i, j, k);
            in_cluster = (here, reached.0, reached.1);
            apart = (ij, jk, ik);
            disagree = λ agree. none (agree.0 h);
          }

  -- so any two layouts agree on them
  pub certain_agree : {e f : ℕ → Ends} → Layout t e → Layout t f → Agree e f (i, j, k)
  certain_agree fits_e fits_f = (certain_trio fits_e fits_f, certain_trio fits_f fits_e)

-- a proper drawing is found again, where it is not doubtful
pub drawn_back : DrawnBack
drawn_back bytes proper = (
  drawn_layout bytes proper,
  λ e chosen i j k li lj lk ij jk ik certain _ _.
      certain_agree (drawn bytes) (drawn_sound bytes) i j k li lj lk ij jk ik certain chosen.fits (drawn_layout bytes proper),
)
