-- A free block goes on a page: the stores of its rows, its mark and its turn.
use mathlib.Core.Path.{◌≡◌, refl, sym, ap, ◌∙◌, subst}
use mathlib.Core.List.{List}
use Prim.Native.Nat.{ℕ, suc, ◌+◌, ◌*◌, ◌<◌}
use native.Mathlib.Omega.{arith}
use native.Mathlib.Numerals.{add-one}
use lib.ListN.{length, get_or, set}
use Rattle.geometry.specs.declared.Geometry.{Geometry}
use Rattle.geometry.specs.Limits.{blocks}
use Rattle.choice.specs.Search.{place_at}
use Rattle.choice.specs.declared.Turn.{Turn}
use Rattle.choice.specs.Turn.{next, turned}
use Rattle.model.specs.State.{State, with_view, free_all}
use Rattle.model.specs.Effects.{place, erase, write}
use Rattle.model.specs.Actions.{do_w, Asks}
use Rattle.model.specs.Calls.{marks_after, given}
use Rattle.model.specs.Layout.{num_cell, page_cell, view_of, notes_of, state_of, stored}
use Rattle.model.proofs.BookFacts.{erase_paged}
use Rattle.model.proofs.Shape.{Shaped, ShapedQueue}
use Rattle.model.proofs.Sizes.{done_sized}
use Rattle.model.proofs.DoneShaped.{done_shaped}
use Rattle.tables.specs.Ready.{Roomy}
use Rattle.tables.specs.Births.{gave}
use Rattle.tables.specs.Puts.{with_page, with_birth, with_mark, with_counter, with_writes}
use Rattle.tables.proofs.Fields
use Rattle.tables.proofs.Puts.{shaped_mark, shaped_counter, shaped_writes}
use Rattle.tables.proofs.Chain.{tail_longer}
use Rattle.tables.proofs.Steps.{
  Holds,
  holds_first,
  holds_from,
  holds_roomy,
  holds_made,
  holds_free,
  holds_says,
  step_to_lem,
  step_page,
  step_given,
  step_mark,
  step_counter,
  step_writes,
}
use Rattle.tables.proofs.Reading.{reads_counter, reads_writes}
use Rattle.tables.proofs.Matches.{place_is}
use Rattle.paging.specs.Target.{Target, frees_of}
use Rattle.paging.specs.Kill.{emptied}
use Rattle.paging.specs.Place.{Storable, FreeAt, placed, filled}
use Rattle.paging.proofs.Killing

-- tables that hold a state can be stored into
kept : (g : Geometry) (t : List ℕ) (T : State) (u : List ℕ) → Roomy g t → Holds g t T u → Storable g u
unfolding state_of notes_of
kept g t T u roomy H = record {
  roomy = holds_roomy g t roomy H;
  made = holds_made g t roomy H;
  free = holds_free g t roomy H;
  short = λ s. omega (arith, H.shaped.view.short s, H.shaped.pages, ap (λ U. length (U.view.list s)) (holds_says g t roomy H));
  names = λ i. omega (arith, H.shaped.notes.short i, ap (λ U. length (U.notes.titles.text i)) (holds_says g t roomy H));
  few = omega (arith, H.shaped.few, H.shaped.blocks, ap (λ U. length U.waiting) (holds_says g t roomy H));
  queued = omega (arith, H.shaped.queue.few, H.shaped.blocks, ap (λ U. length U.queue.list) (holds_says g t roomy H));
}

kept_holds : {g : Geometry} {t : List ℕ} → Storable g t → Holds g t (state_of g t) t
kept_holds {g} {t} k = holds_from g t k.roomy k.made k.free k.short k.names k.few k.queued

-- ── the block's page and birth ──

module _ {g : Geometry} {t : List ℕ} (k : Storable g t) (s x b : ℕ) (hs : s < g.records) (live : 0 < (view_of g t).num s)
    (hx : x < g.pages) (hb : b < blocks g) where
  abbrev T : State
  T = state_of g t

  paged : Holds g t (with_page T s x (b + 1)) (set t (page_cell s x) (b + 1))
  paged = step_page g t k.roomy (kept_holds k) s x (b + 1) hs hx

  pub paged_roomy : Roomy g (set t (page_cell s x) (b + 1))
  paged_roomy = holds_roomy g t k.roomy paged

  -- v is the record's number as it was read
  pub block_put : (v : ℕ) (u : List ℕ) → v ≡ get_or t (num_cell s) 0 → u ≡ gave g.records (set t (page_cell s x) (b + 1)) b v →
      u ≡ stored g (placed (state_of g t) s x b) t
  unfolding placed state_of
  block_put v u ev eu =
      let e : (view_of g t).num s ≡ v = Fields.num_is g t s hs ∙ sym ev in
      eu ∙ (step_given g t k.roomy paged b v hb (omega arith)).is ∙
      ap (λ w. stored g (with_birth (with_page T s x w) b v) t) (add-one b) ∙
      ap (λ w. stored g (with_birth (with_page T s x (suc b)) b w) t) (sym e) ∙
      ap (λ U. stored g U t) (place_is T s x b)

-- ── the mark and the turn ──

abbrev turn_of : State → Turn
turn_of U = record { counter = U.counter; writes = U.writes }

module _ (g : Geometry) (U : State) (a o : ℕ) where
  given_is : with_writes (with_counter (with_mark U a (next g.per o)) (turned g.arenas g.turn (turn_of U)).counter)
      (turned g.arenas g.turn (turn_of U)).writes ≡ given g U (place_at a o)
  unfolding with_writes with_counter with_mark given marks_after
  given_is = refl

  pub given_shaped : Shaped g U → a < g.arenas → Shaped g (given g U (place_at a o))
  unfolding with_writes with_counter with_mark given marks_after
  given_shaped S h =
      let f = turned g.arenas g.turn (turn_of U) in
      shaped_writes g _ (shaped_counter g _ (shaped_mark g U S a (next g.per o) h) f.counter) f.writes

-- r is the turn that follows, m the mark
pub turn_put : {g : Geometry} {t : List ℕ} (k : Storable g t) (a o : ℕ) → a < g.arenas → (r w : Turn) (m : ℕ) → w.counter ≡ get_or t 7 0 →
    w.writes ≡ get_or t 8 0 →
    r ≡ turned g.arenas g.turn w → m ≡ next g.per o →
    set (set (set t (16 + a) m) 7 r.counter) 8 r.writes ≡ stored g (given g (state_of g t) (place_at a o)) t
unfolding state_of
turn_put {g} {t} k a o h r w m ec ew er em =
    let T : State = state_of g t in
    let q : w ≡ turn_of T = λ i. record { counter = ec i; writes = ew i } in
    let f : r ≡ turned g.arenas g.turn (turn_of T) = er ∙ ap (turned g.arenas g.turn) q in
    (step_writes g t k.roomy (step_counter g t k.roomy (step_mark g t k.roomy (kept_holds k) a m h) r.counter) r.writes).is ∙
    ap (λ v. stored g (with_writes (with_counter (with_mark T a v) r.counter) r.writes) t) em ∙
    ap (λ (v : Turn). stored g (with_writes (with_counter (with_mark T a (next g.per o)) v.counter) v.writes) t) f ∙
    ap (λ U. stored g U t) (given_is g T a o)

-- ── all of it ──

module _ {g : Geometry} {t : List ℕ} {s x a o : ℕ} (A : Target g t s x) (P : FreeAt g t a o) where
  abbrev b : ℕ
  b = a * g.per + o

  -- the state with the block on its page
  abbrev W : State
  W = free_all (frees_of g t s x) (with_view (state_of g t) (write (state_of g t).view s x b))

  asks : Asks (state_of g t).view (do_w s x b)
  unfolding state_of view_of
  asks = (A.live, A.is_open, A.page, P.block, P.free)

  written_shaped : Shaped g W
  written_shaped =
      let S = (holds_first A.ready).shaped in
      let z = done_sized (state_of g t).view (do_w s x b) in
      record {
        view = done_shaped (state_of g t).view (do_w s x b) A.ready.sound asks S.view;
        slots = z.slots ∙ S.slots;
        pages = z.pages ∙ S.pages;
        blocks = z.blocks ∙ S.blocks;
        mark = S.mark;
        notes = S.notes;
        queue = subst (λ n. ShapedQueue n (state_of g t).queue) (sym z.blocks) S.queue;
        few = omega (arith, Killing.emptied_few A, z.blocks ∙ S.blocks);
      }

  -- u: the page is empty
  module _ (u : List ℕ) (eu : u ≡ stored g (emptied g t s x) t) where
    pub emptied_kept : Storable g u
    emptied_kept = kept g t (emptied g t s x) u A.ready.roomy (Killing.emptied_holds A u eu)

    pub emptied_live : 0 < (view_of g u).num s
    unfolding emptied erase state_of
    emptied_live =
        let K = (state_of g t).view in
        omega (
          arith,
          A.live,
          ap (λ U. U.view.num s) (holds_says g t A.ready.roomy (Killing.emptied_holds A u eu)),
          (erase_paged K s x (K.page s x) refl).num s,
        )

    -- v: the block is on it
    module _ (v : List ℕ) (ev : v ≡ stored g (placed (state_of g u) s x (a * g.per + o)) u) where
      block_holds : Holds g t W v
      unfolding emptied placed write place
      block_holds =
          step_to_lem g t A.ready.roomy (Killing.emptied_holds A u eu) (λ U. placed U s x b) v ev written_shaped
          (λ r h. tail_longer g t (emptied g t s x) W r (omega arith)) (omega arith) (omega arith) refl

      pub block_kept : Storable g v
      block_kept = kept g t W v A.ready.roomy block_holds

      pub block_counter : get_or v 7 0 < g.arenas
      block_counter = omega (arith, reads_counter g t A.ready.roomy block_holds, A.ready.range.counter)

      pub block_writes : get_or v 8 0 < g.turn
      block_writes = omega (arith, reads_writes g t A.ready.roomy block_holds, A.ready.range.writes)

      pub page_filled : (w : List ℕ) → w ≡ stored g (given g (state_of g v) (place_at a o)) v → w ≡ stored g (filled g t s x a o) t
      unfolding filled given
      page_filled w ew =
          (step_to_lem g t A.ready.roomy block_holds (λ U. given g U (place_at a o)) w ew (given_shaped g W a o written_shaped P.arena)
          (λ r h. tail_longer g t W (given g W (place_at a o)) r (omega arith)) (omega arith) (omega arith) refl).is

  -- the tables with the page filled hold that state
  pub filled_shaped : Shaped g (filled g t s x a o)
  unfolding filled
  filled_shaped = given_shaped g W a o written_shaped P.arena
