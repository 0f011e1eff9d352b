-- The notes of names that tables can hold, after each change.
use mathlib.Core.Path.{◌≡◌, sym, ap, ◌∙◌}
use mathlib.Core.List.{List, []}
use Prim.Native.Nat.{ℕ, suc, pred, ◌≤◌, ◌<◌}
use native.Mathlib.Omega.{arith}
use lib.ListN.{length}
use Rattle.answer.proofs.Cases.{cases, same?}
use Rattle.model.specs.Names.{ValidName, named, unnamed, one_more, one_less, count_moved}
use Rattle.model.specs.State.{Notes, with_titles, passed_notes}
use Rattle.model.proofs.TabFacts.{put_at, put_other}
use Rattle.model.proofs.Shape.{ShapedNotes}
use Rattle.model.proofs.NameRows.{named_owner, named_text, named_owners, named_texts, moved_owner, moved_owners, moved_texts}

-- the count of a slot inside the table
counts_out : (R : ℕ) (names : ℕ → ℕ) (s v : ℕ) → s < R → ((t : ℕ) → R ≤ t → names t ≡ 0) → (t : ℕ) → R ≤ t →
    Rattle.model.specs.Table.put names s v t ≡ 0
counts_out R names s v h out t l = put_other names s v t (λ e. let z : ⊥ = omega arith in z) ∙ out t l

-- N: a name in row i, on the record in slot s
pub named_shaped : (R : ℕ) (N : Notes) (i s : ℕ) (l : List ℕ) → i < 32 → ValidName l → s < R → ShapedNotes R N →
    ShapedNotes R (with_titles N (one_more N.names s) (named N.titles i s l))
unfolding one_more
named_shaped R N i s l h w r S = record {
  window = S.window;
  names = counts_out R N.names s (suc (N.names s)) r S.names;
  rows = λ j k. named_owners N.titles i s l j (λ e. let z : ⊥ = omega arith in z) ∙ S.rows j k;
  empty = λ j z. cases (same? j i)
      (λ e. absurd (let w : ⊥ = omega (arith, ap (named N.titles i s l).owner e, named_owner N.titles i s l, z) in w))
      (λ n. named_texts N.titles i s l j n ∙ S.empty j (sym (named_owners N.titles i s l j n) ∙ z));
  short = λ j. cases (same? j i)
      (λ e. omega (arith, ap (λ (k : List ℕ). length k) (ap (named N.titles i s l).text e ∙ named_text N.titles i s l), w.short))
      (λ n. omega (arith, ap (λ (k : List ℕ). length k) (named_texts N.titles i s l j n), S.short j));
}

-- U: row i becomes empty, and the record in slot s has one name less
pub unnamed_shaped : (R : ℕ) (N : Notes) (i s : ℕ) → s < R → ShapedNotes R N → ShapedNotes R (with_titles N (one_less N.names s) (unnamed N.titles i))
unfolding one_less unnamed
unnamed_shaped R N i s r S = record {
  window = S.window;
  names = counts_out R N.names s (pred (N.names s)) r S.names;
  rows = λ j k. cases (same? j i)
      (λ e. put_at N.titles.owner i 0 j e)
      (λ n. put_other N.titles.owner i 0 j n ∙ S.rows j k);
  empty = λ j z. cases (same? j i)
      (λ e. put_at N.titles.text i [] j e)
      (λ n. put_other N.titles.text i [] j n ∙ S.empty j (sym (put_other N.titles.owner i 0 j n) ∙ z));
  short = λ j. cases (same? j i)
      (λ e. omega (arith, ap (λ (k : List ℕ). length k) (put_at N.titles.text i [] j e)))
      (λ n. omega (arith, ap (λ (k : List ℕ). length k) (put_other N.titles.text i [] j n), S.short j));
}

-- S: the window and the names of slot r pass to slot f
pub passed_shaped : (R : ℕ) (N : Notes) (r f : ℕ) → r < R → f < R → ShapedNotes R N → ShapedNotes R (passed_notes N r f)
unfolding count_moved
passed_shaped R N r f hr hf S = record {
  window = counts_out R N.window f (N.window r) hf S.window;
  names = counts_out R _ r 0 hr (counts_out R N.names f (N.names r) hf S.names);
  rows = λ i h. moved_owners N.titles r f i (λ e. let z : ⊥ = omega (arith, S.rows i h) in z) ∙ S.rows i h;
  empty = λ i z. moved_texts N.titles r f i ∙ S.empty i (cases (same? (N.titles.owner i) (suc r))
      (λ e. absurd (let w : ⊥ = omega (arith, moved_owner N.titles r f i e) in w))
      (λ n. sym (moved_owners N.titles r f i n) ∙ z));
  short = λ i. omega (arith, ap (λ (k : List ℕ). length k) (moved_texts N.titles r f i), S.short i);
}
