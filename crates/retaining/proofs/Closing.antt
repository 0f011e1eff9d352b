-- An S that none of 8, 9, 11 and 12 refuses: the seal, then, in a line with a window, the deletes.
use mathlib.Core.Path.{◌≡◌, refl, sym, ap, ap₂, ◌∙◌, subst}
use mathlib.Core.Logic.{inl, inr}
use mathlib.Core.Bool.{Bool, cond, ◌&&◌}
use mathlib.Core.List.{List, [], ◌∷◌, ◌++◌, map}
use Prim.Native.Nat.{ℕ, zero, suc, pred, ◌+◌, ◌-◌, ◌<◌}
use native.Mathlib.Omega.{arith}
use lib.Dec.{eqb, ltb}
use lib.ListN.{length, get_or, set}
use lib.Seq.{sets}
use Rattle.answer.specs.Reply.{accepted, reply_of}
use Rattle.std.specs.Prelude.{Result, Ok}
use Rattle.answer.specs.declared.Refusal.{Refusal}
use Rattle.geometry.specs.declared.Geometry.{Geometry}
use Rattle.model.specs.View.{View}
use Rattle.model.specs.Lists.{In, trim, trim_walk}
use Rattle.model.specs.Sound.{Sound}
use Rattle.model.specs.State.{State, Notes, with_view, with_notes, passed_notes}
use Rattle.model.specs.Effects.{seal}
use Rattle.model.specs.Actions.{Action, do_s, do_d, done, forked}
use Rattle.model.specs.Window.{AsksAlong, older, sealed_of, bare, victims, trimming, sealing, queueing}
use Rattle.model.specs.Calls.{acted}
use Rattle.model.specs.Layout.{view_of, state_of, stored}
use Rattle.model.specs.Memory.{stored_along}
use Rattle.model.proofs.DoneSound.{spare, done_sound}
use Rattle.model.proofs.WindowLists.{trim_walked}
use Rattle.model.proofs.WindowMoves.{sealing_giveless}
use Rattle.model.proofs.WindowLine.{older_less}
use Rattle.model.proofs.WindowSeal.{seal_line, seal_num, seal_asks, seal_takes}
use Rattle.model.proofs.Queueing.{queueing_step}
use Rattle.model.proofs.NameActions.{NamesFit, count_stays}
use Rattle.tables.specs.Ready.{Ready, OutLong}
use Rattle.tables.proofs.Fields
use Rattle.tables.proofs.Ranges
use Rattle.tables.proofs.Steps.{holds_first}
use Rattle.lines.specs.Growing.{viewed}
use Rattle.lines.proofs.Answers.{acted_is}
use Rattle.tables.proofs.Sets.{take_sets}
use Rattle.retaining.specs.Lines.{Lined}
use Rattle.retaining.specs.Deletes.{oldest, oldest_in, oldest_left}
use Rattle.retaining.specs.Closing.{Closes, sealed_as, closed_state, deleted_tables, closed_reply, closed_tables, closed_out}
use Rattle.retaining.proofs.Lining.{lined_count, lined_newest}
use Rattle.retaining.proofs.Acting

-- the window's deletes by a walk along the line
window_walked : (L : View) (names : ℕ → ℕ) (r w k : ℕ) → 0 < w → k ≡ length (sealed_of L r) - w →
    oldest L names k (sealed_of L r) ≡ trimming L names w r
unfolding oldest victims
window_walked L names r zero k h e = absurd (let z : ⊥ = omega arith in z)
window_walked L names r (suc n) k h e =
    ap (map do_d) (sym (trim_walked (bare L names) k (sealed_of L r)) ∙ ap (λ j. trim (bare L names) j (sealed_of L r)) e)

-- the last of the line is not looked at: tests that agree on the others take the same
walk_agree : (p q : ℕ → Bool) (r : ℕ) (a : List ℕ) (k : ℕ) → ((x : ℕ) → In x a → p x ≡ q x) → trim_walk p k (a ++ (r ∷ [])) ≡ trim_walk q k (a ++ (r ∷ []))
unfolding trim_walk
walk_agree p q r [] k h = refl
walk_agree p q r (s ∷ []) k h =
    ap (λ (b : Bool). cond {A = List ℕ} (ltb 0 k && b) (s ∷ []) []) (h s (inl refl))
walk_agree p q r (s ∷ t ∷ a) k h =
    ap₂ (λ (b : Bool) (l : List ℕ). cond (ltb 0 k && b) (s ∷ l) (trim_walk p k (t ∷ (a ++ (r ∷ []))))) (h s (inl refl))
    (walk_agree p q r (t ∷ a) (pred k) (λ x i. h x (inr i))) ∙
    ap (cond (ltb 0 k && q s) (s ∷ trim_walk q (pred k) (t ∷ (a ++ (r ∷ []))))) (walk_agree p q r (t ∷ a) k (λ x i. h x (inr i)))

oldest_agree : (L : View) (names counts : ℕ → ℕ) (r k : ℕ) → ((x : ℕ) → In x (older L r) → names x ≡ counts x) →
    oldest L names k (sealed_of L r) ≡ oldest L counts k (sealed_of L r)
unfolding oldest sealed_of bare
oldest_agree L names counts r k h =
    ap (map do_d) (walk_agree (bare L names) (bare L counts) r (older L r) k (λ x i. ap (λ n. eqb (forked L x) 0 && eqb n 0) (h x i)))

-- without a window there are none
sealing_none : (K : View) (names : ℕ → ℕ) (s : ℕ) → sealing K names 0 s ≡ do_s s ∷ []
unfolding sealing victims
sealing_none K names s = refl

-- other notes are no matter to what is queued
noted_same : (U : State) (N : Notes) (l : List Action) → queueing (with_notes U N) l ≡ with_notes (queueing U l) N
unfolding queueing
noted_same U N l = refl

-- the promises of an S on such slots
abbrev pub Closed : Geometry → List ℕ → Result ℕ Refusal → List ℕ → List ℕ → List ℕ → ℕ → ℕ → ℕ → Type 0
Closed g t a u out out' s f w = (reply_of a out' ≡ closed_reply g t) × ((u ≡ closed_tables g t s f w) × (out' ≡ closed_out g t out))

module _ {g : Geometry} {t : List ℕ} (R : Ready g t) (s f w : ℕ) (C : Closes g t s f w) where
  abbrev K : View
  K = view_of g t

  abbrev T : State
  T = state_of g t

  abbrev L : View
  L = done (view_of g t) (do_s s)

  abbrev names : ℕ → ℕ
  names = (state_of g t).notes.names

  S : Sound K
  S = Ranges.sound R

  names_fit : NamesFit K T.notes
  unfolding state_of
  names_fit = R.names

  pub seal_needs : (f < g.records) × (get_or t 6 0 < 999999) × (s < g.records) × (s ≡ f → ⊥) × (0 < (view_of g t).num s) × (0 < (view_of g t).is_open s)
  seal_needs =
      let h = spare K C.asks.2 in (
        omega (arith, C.empty, h.0, Fields.slots_is g t),
        omega (arith, C.last, Fields.last_is g t),
        Ranges.slot_in R s C.asks.0,
        λ e. let z : ⊥ = omega (arith, C.asks.0, h.1, ap K.num (e ∙ C.empty)) in z,
        C.asks.0,
        C.asks.1,
      )

  -- ── the number of the new record ──

  module _ (out : List ℕ) (long : OutLong g out) (v : ℕ) (ev : v ≡ get_or t 6 0 + 1) where
    number_is : v ∷ [] ≡ suc K.last ∷ []
    number_is = ap (λ k. k ∷ []) (let z : v ≡ suc K.last = omega (arith, Fields.last_is g t) in z)

    reply_is : reply_of (Ok 1) (set out 0 v) ≡ closed_reply g t
    unfolding reply_of closed_reply
    reply_is = ap accepted (take_sets out (v ∷ []) 1 refl (omega arith) ∙ number_is)

    out_is : set out 0 v ≡ closed_out g t out
    unfolding closed_out
    out_is = ap (sets out 0) number_is

  -- ── the tables t₁ after the seal ──

  module _ (t₁ : List ℕ) (e₁ : t₁ ≡ viewed g t (seal (state_of g t).view s f) (passed_notes (state_of g t).notes s f)) where
    sealed_is : t₁ ≡ stored g (sealed_as T s f) t
    unfolding viewed state_of
    sealed_is =
        e₁ ∙ ap (λ h. stored g (with_notes (with_view T (seal K s h)) (passed_notes T.notes s f)) t) C.empty ∙
        ap (λ U. stored g (with_notes U (passed_notes T.notes s f)) t) (acted_is T (do_s s) refl)

    pub ready₁ : Ready g t₁
    ready₁ = Acting.sealed_ready R s C.asks C.last f C.empty t₁ sealed_is

    says₁ : state_of g t₁ ≡ sealed_as T s f
    says₁ = Acting.sealed_says R s C.asks C.last f C.empty t₁ sealed_is

    view₁ : view_of g t₁ ≡ L
    unfolding acted state_of
    view₁ = ap (λ U. U.view) says₁

    -- ── without a window that is all ──

    module _ (z : w ≡ 0) where
      bare_is : closed_state T s f w ≡ sealed_as T s f
      unfolding closed_state
      bare_is =
          ap (λ (l : List Action). with_notes (queueing T l) (passed_notes T.notes s f))
          (ap (λ k. sealing T.view names k s) z ∙ sealing_none T.view names s) ∙
          ap (λ U. with_notes U (passed_notes T.notes s f)) (sym (Acting.seal_quiet T s))

      deleted_is : deleted_tables g t s f w ≡ t₁
      unfolding deleted_tables victims stored_along
      deleted_is =
          ap (λ k. stored_along g (sealed_as T s f) (trimming (sealed_as T s f).view names k s) (stored g (sealed_as T s f) t)) z ∙ sym sealed_is

      bare_tables : t₁ ≡ closed_tables g t s f w
      unfolding closed_tables
      bare_tables = (holds_first ready₁).is ∙ sym (ap₂ (λ (U : State) (u : List ℕ). stored g U u) (bare_is ∙ sym says₁) deleted_is)

      pub bare_left : (out : List ℕ) → OutLong g out → (v : ℕ) → v ≡ get_or t 6 0 + 1 → Closed g t (Ok 1) t₁ out (set out 0 v) s f w
      bare_left out long v ev = (reply_is out long v ev, (bare_tables, out_is out long v ev))

    -- ── the line in these tables ──

    module _ (line : List ℕ) (count : ℕ) (D : Lined (view_of g t) s line count) where
      abbrev r : ℕ
      r = get_or line 0 0

      line_is : sealed_of (view_of g t₁) r ≡ sealed_of K s
      line_is = ap₂ sealed_of view₁ (lined_newest D) ∙ seal_line K s S C.asks

      pub sealed_lined : Lined (view_of g t₁) (get_or line 0 0) line count
      sealed_lined = record {
        live = omega (arith, D.live, seal_num K s S C.asks, ap₂ (λ (B : View) (n : ℕ). B.num n) view₁ (lined_newest D));
        few = D.few;
        slots = D.slots ∙ sym line_is;
      }

      -- ── the deletes ──

      module _ (some : 0 < w) (most : ℕ) (em : most ≡ count - w) where
        -- the seal moved no count of an older record
        counts : (x : ℕ) → In x (older L s) → (passed_notes T.notes s f).names x ≡ names x
        counts x i =
            ap (λ h. (passed_notes T.notes s h).names x) C.empty ∙
            count_stays K T.notes s S C.asks names_fit x
            (older_less L (done_sound K (do_s s) S C.asks) s (omega (arith, C.asks.0, seal_num K s S C.asks)) x i)

        deletes_are : oldest_in g t₁ most r ≡ trimming L names w s
        deletes_are =
            ap₂ (λ (B : View) (n : ℕ). oldest B (state_of g t₁).notes.names most (sealed_of B n)) view₁ (lined_newest D) ∙
            ap (λ (U : State). oldest L U.notes.names most (sealed_of L s)) says₁ ∙
            oldest_agree L (passed_notes T.notes s f).names names s most counts ∙
            window_walked L names s w most some
            (em ∙ ap (λ n. n - w) (lined_count D ∙ sym (ap length (seal_line K s S C.asks))))

        left_is : oldest_left g t₁ most r ≡ deleted_tables g t s f w
        unfolding oldest_left deleted_tables acted state_of
        left_is =
            ap₂ (λ (U : State) (l : List Action). stored_along g U l t₁) says₁ deletes_are ∙
            ap (stored_along g (sealed_as T s f) (trimming L names w s)) sealed_is

        -- ── the tables t₂ after them ──

        module _ (t₂ : List ℕ) (e₂ : t₂ ≡ oldest_left g t₁ most (get_or line 0 0)) where
          asks_along : AsksAlong (view_of g t₁) (trimming L names w s)
          unfolding sealing
          asks_along = subst (λ B. AsksAlong B (trimming L names w s)) (sym view₁) (seal_asks K s S C.asks names w).1

          along_is : t₂ ≡ stored_along g (state_of g t₁) (trimming L names w s) t₁
          unfolding oldest_left
          along_is = e₂ ∙ ap (λ l. stored_along g (state_of g t₁) l t₁) deletes_are

          -- what goes has no name
          nameless : (v : ℕ) → In v (victims L names w s) → (state_of g t₁).notes.names v ≡ 0
          nameless v i =
              let W = seal_takes K s S C.asks names w in
              ap (λ (U : State). U.notes.names v) says₁ ∙ ap (λ h. (passed_notes T.notes s h).names v) C.empty ∙
              count_stays K T.notes s S C.asks names_fit v (W.not_newest v i) ∙ W.nameless v i

          ready₂ : Ready g t₂
          ready₂ = subst (Ready g) (sym along_is) (Acting.gone_along (victims L names w s) t₁ ready₁ asks_along nameless).0

          says₂ : state_of g t₂ ≡ queueing (sealed_as T s f) (trimming L names w s)
          says₂ =
              ap (state_of g) along_is ∙ (Acting.gone_along (victims L names w s) t₁ ready₁ asks_along nameless).1 ∙
              ap (λ U. queueing U (trimming L names w s)) says₁

          -- the seal, then the deletes
          both : queueing T (sealing T.view names w s) ≡ queueing (acted T (do_s s) 0) (trimming L names w s)
          unfolding sealing state_of
          both =
              queueing_step T (do_s s) (trimming L names w s) S (seal_asks K s S C.asks names w) (sealing_giveless K names w s) ∙
              ap (λ U. queueing U (trimming L names w s)) (sym (Acting.seal_quiet T s))

          closed_is : state_of g t₂ ≡ closed_state T s f w
          unfolding closed_state
          closed_is =
              says₂ ∙ noted_same (acted T (do_s s) 0) (passed_notes T.notes s f) (trimming L names w s) ∙
              ap (λ U. with_notes U (passed_notes T.notes s f)) (sym both)

          tables_are : t₂ ≡ closed_tables g t s f w
          unfolding closed_tables
          tables_are = (holds_first ready₂).is ∙ ap₂ (λ (U : State) (u : List ℕ). stored g U u) closed_is (e₂ ∙ left_is)

          pub closed_left : (out : List ℕ) → OutLong g out → (v : ℕ) → v ≡ get_or t 6 0 + 1 → Closed g t (Ok 1) t₂ out (set out 0 v) s f w
          closed_left out long v ev = (reply_is out long v ev, (tables_are, out_is out long v ev))
