-- The promises of `make`, return by return.
use mathlib.Core.Path.{◌≡◌, sym, ap, subst}
use mathlib.Core.Bool.{true, false}
use mathlib.Core.List.{List}
use Prim.Native.Nat.{ℕ}
use Rattle.std.specs.Prelude.{Result, Ok, Err}
use Rattle.answer.specs.Number.{number_of}
use Rattle.answer.specs.declared.Refusal.{Refusal}
use Rattle.answer.specs.declared.Refusal.TheVariants.{TooShort}
use Rattle.answer.specs.Reply.{Reply, refused, reply_of}
use Rattle.answer.specs.Refusal.{leaves}
use Rattle.geometry.specs.declared.Geometry.{Geometry}
use Rattle.geometry.specs.Limits.{fits, making_of}
use Rattle.geometry.proofs.Made.{inside_fits}
use Rattle.alloc_log.proofs.Tools.{MadeOf, outside}
use Rattle.model.specs.Layout.{made}
use Rattle.model.specs.Memory.{Memory, short?, make_reply, make_after}

-- ── the making ──

-- both promises of `make`: its answer, and the tables that it leaves
abbrev pub Answered : Result ℕ Refusal → List ℕ → Geometry → Memory → Type 0
Answered r left g M = (reply_of r M.out ≡ make_reply g M) × (left ≡ (make_after g M).tables)

module _ (M : Memory) where
  refuses : (g : Geometry) (n : Refusal) → make_reply g M ≡ refused (number_of n) → Answered (Err n) M.tables g M
  unfolding reply_of make_after
  refuses g n e = (sym e, sym (ap (λ (r : Reply). leaves r M.tables (made g M.tables)) e))

  pub make_outside : (six : Geometry) {r : Refusal} → Err r ≡ making_of six.arenas six.per six.pages six.records six.turn six.words →
      Answered (Err r) M.tables six M
  unfolding make_reply
  make_outside six {r} e = let o = outside six e in refuses six r (rw (o.0, o.1))

  made_3 : (g : Geometry) → fits g ≡ true → short? g M ≡ true → Answered (Err TooShort) M.tables g M
  unfolding make_reply
  made_3 g f s = refuses g TooShort (rw (f, s))

  made_done : (g : Geometry) → fits g ≡ true → short? g M ≡ false → Answered (Ok 0) (made g M.tables) g M
  unfolding make_reply make_after reply_of
  made_done g f s = (rw (f, s), rw (f, s))

  module _ {six g : Geometry} (m : MadeOf six g) where
    pub make_3 : true ≡ short? g M → Answered (Err TooShort) M.tables six M
    make_3 s = subst (λ k. Answered (Err TooShort) M.tables k M) m.is (made_3 g (inside_fits g m.inside) (sym s))

    pub make_done : (left : List ℕ) → false ≡ short? g M → left ≡ made g M.tables → Answered (Ok 0) left six M
    make_done left s e =
        subst (λ k. Answered (Ok 0) left k M) m.is (rw e (made_done g (inside_fits g m.inside) (sym s)))
