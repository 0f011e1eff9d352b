-- A part served for a host: what each refusal leaves, what the checks that are passed promise, and what the part leaves.
use mathlib.Core.Path.{◌≡◌, refl, sym, ap, ap₂, ◌∙◌, subst}
use mathlib.Core.Bool.{Bool, true, false, not, cond, ◌&&◌, ◌||◌}
use mathlib.Core.Logic.{◌⊎◌, inl, inr}
use mathlib.Core.List.{List, [], ◌∷◌}
use Prim.Native.Nat.{ℕ, zero, suc, ◌≤◌, ◌<◌}
use native.Mathlib.Omega.{arith}
use lib.Dec.{eqb}
use lib.ListN.{length, get_or}
use lib.Seq.{sets}
use borrow.Author.Tests.{ne_eqb, ltb-false, not-false}
use Rattle.answer.specs.Reply.{Reply, accepted, refused}
use Rattle.answer.specs.Refusal.{Condition, decide, leaves}
use Rattle.answer.proofs.Cases.{cases}
use Rattle.geometry.specs.declared.Geometry.{Geometry}
use Rattle.std.specs.Prelude.{Result, Ok, Err, is_err}
use Rattle.answer.specs.Number.{number_of}
use Rattle.answer.specs.declared.Refusal.{Refusal}
use Rattle.answer.specs.declared.Refusal.TheVariants.{OutsideLimits, TooShort, NotSound}
use Rattle.geometry.specs.Limits.{Inside, geometry_of, fits, making_of, most_tables, most_log, most_out}
use Rattle.geometry.proofs.Made.{fits_inside}
use Rattle.alloc_log.specs.Word.{write_at}
use Rattle.model.specs.Memory.{Memory, sound?, make_reply}
use Rattle.model.proofs.SoundTest.{sound_iff}
use Rattle.script.specs.Said.{said_at}
use Rattle.script.specs.Spoken.{Spoken, makes, asks, nothing, spoken_at}
use Rattle.session.specs.declared.Session.{Session}
use Rattle.session.specs.Step.{geometry_in, started_by, step_session, Kept}
use Rattle.serving.specs.declared.Served.{Served}
use Rattle.serving.specs.Part.{Part, begun, served_line, goes_on, served_most, served, Serves}
use Rattle.serving.specs.Host.{Lent, session_of, run_of, lent_short, host_conditions, host_part, host_reply, host_left, hosted_reply, Hosts, Narrow}

-- ── the numbers of a session ──

module _ (s₀ : Session) where
  -- a session is the one that a part began with, or one of a store that a line made
  abbrev One : Session → Type 0
  One s = (s ≡ s₀) ⊎ (s.made ≡ 1)

  either_way : (b : Bool) (p q : Part) → One p.session → One q.session → One (cond b p q).session
  either_way true p q h k = h
  either_way false p q h k = k

  started : (r : Reply) (s : Session) (g : Geometry) → One s → One (started_by r s g)
  started (accepted l) s g o = inr refl
  started (refused n) s g o = o

  stepped : (s : Session) (M : Memory) (p : Spoken) → One s → One (step_session s M p)
  unfolding step_session
  stepped s M (makes x) o = started (make_reply (geometry_in x) M) s (geometry_in x) o
  stepped s M (asks c) o = o
  stepped s M nothing o = o

  one_of : (n : ℕ) (text : List ℕ) (room : ℕ) (p : Part) → One p.session → One (served_most n text room p).session
  unfolding served_most served_line
  one_of zero text room p o = o
  one_of (suc n) text room p o =
      either_way (goes_on text room p) (served_most n text room (served_line text p)) p
      (one_of n text room (served_line text p) (stepped p.session p.memory (spoken_at text p.at (said_at text p.at).says) o))
      o

pub narrow_after : (text : List ℕ) (room at : ℕ) (s : Session) (M : Memory) (buffer : List ℕ) (r : Served) (left : Memory) (after : List ℕ) → Narrow s
    → Serves (served text room (begun at s M)) buffer r left after → Narrow r.session
unfolding served
narrow_after text room at s M buffer r left after w v =
    cases (one_of s (length text) text room (begun at s M) (inl refl))
    (λ e. subst Narrow (sym (v.session ∙ e)) w)
    (λ e.
    let m : r.session.made ≡ 1 = ap (λ (s : Session). s.made) v.session ∙ e in
    let i = v.kept.inside (omega arith) in
    record {
      made = omega arith;
      arenas = omega (arith, i.arenas_most);
      per = omega (arith, i.per_most);
      pages = omega (arith, i.pages_most);
      records = omega (arith, i.records_most);
      turn = omega (arith, i.turn_most);
      words = omega (arith, i.words_most);
    })

-- ── what the checks come to ──

abbrev made? : Session → Bool
made? s = not (eqb s.made 0)

made_yes : (s : Session) → 0 < s.made → made? s ≡ true
made_yes s h = rw (ne_eqb s.made 0 (λ e. omega arith))

-- where there is a store, a check that is passed was passed by it
passed : (s : Session) (b : Bool) → (made? s && not b) ≡ false → 0 < s.made → b ≡ true
passed s b e h = not-false b (rw (made_yes s h) at e)

pub some_made : (s : Session) (b : Bool) → (s.made ≡ 0 → ⊥) → b ≡ (made? s && b)
some_made s b n = rw (ne_eqb s.made 0 n)

-- once there is a store, the making of its numbers says whether they lie outside
pub making_tells : (s : Session) → (s.made ≡ 0 → ⊥) → {r : Result Geometry Refusal} →
    r ≡ making_of s.g.arenas s.g.per s.g.pages s.g.records s.g.turn s.g.words → is_err r ≡ (made? s && not (fits s.g))
unfolding making_of
making_tells s n new = ap is_err new ∙ go (fits s.g) ∙ some_made s (not (fits s.g)) n
  where
    go : (t : Bool) → is_err (cond t (Ok s.g) (Err OutsideLimits)) ≡ not t
    go true = refl
    go false = refl

or_no : (a b : Bool) → (a || b) ≡ false → (a ≡ false) × (b ≡ false)
or_no false b e = (refl, e)
or_no true b e = absurd (let z : ◌≡◌ {A = ℕ} 0 1 = cc in omega arith)

pub record Long (H : Lent) : Type 0 where
  pub run : 7 ≤ length H.run
  pub tables : most_tables ≤ length H.memory.tables
  pub log : most_log ≤ length H.memory.log
  pub out : most_out ≤ length H.memory.out

pub long : (H : Lent) → lent_short H ≡ false → Long H
unfolding lent_short
long H e =
    let a = or_no _ _ e in
    let b = or_no _ _ a.1 in
    let d = or_no _ _ b.1 in
    let f = or_no _ _ d.1 in
    record {
      run = ltb-false _ _ a.0;
      tables = ltb-false _ _ b.0;
      log = ltb-false _ _ d.0;
      out = ltb-false _ _ f.0;
    }

-- the seven numbers are those of the session
pub session_as : (run : List ℕ) {m a b p r t w : ℕ} → m ≡ get_or run 0 0 → a ≡ get_or run 1 0 → b ≡ get_or run 2 0 → p ≡ get_or run 3 0 → r ≡ get_or run 4 0
    → t ≡ get_or run 5 0 → w ≡ get_or run 6 0 → ◌≡◌ {A = Session} (record { made = m; g = geometry_of a b p r t w }) (session_of run)
session_as run e₀ e₁ e₂ e₃ e₄ e₅ e₆ = cc

pub inside_limits : (s : Session) → (made? s && not (fits s.g)) ≡ false → 0 < s.made → Inside s.g
inside_limits s e h = fits_inside s.g (passed s (fits s.g) e h)

-- ── the answers ──

lent_of : {run run' replies replies' : List ℕ} {M M' : Memory} → run ≡ run' → M ≡ M' → replies ≡ replies'
    → ◌≡◌ {A = Lent} (record { run = run; memory = M; replies = replies }) (record { run = run'; memory = M'; replies = replies' })
lent_of p q r = cc

module _ (text : List ℕ) (at : ℕ) (H : Lent) (s : Session) (is : s ≡ session_of H.run) where
  abbrev outside? : Bool
  outside? = made? s && not (fits s.g)

  abbrev unsound? : Bool
  unsound? = made? s && not (sound? s.g H.memory.tables H.memory.log)

  abbrev conditions : List Condition
  conditions = (2, outside?) ∷ (3, lent_short H) ∷ (4, unsound?) ∷ []

  abbrev given : List ℕ
  given = (host_part text at H).at ∷ length (host_part text at H).replies ∷ []

  abbrev new : Lent
  new = record {
    run = sets H.run 0 (run_of (host_part text at H).session);
    memory = (host_part text at H).memory;
    replies = write_at H.replies 0 (host_part text at H).replies;
  }

  reply_is : host_reply text at H ≡ decide conditions given
  unfolding host_reply host_conditions
  reply_is =
      ap
      (λ (k : Session).
      decide
      ((2, made? k && not (fits k.g)) ∷ (3, lent_short H) ∷ (4, made? k && not (sound? k.g H.memory.tables H.memory.log)) ∷ [])
      given)
      (sym is)

  refuses : (k : Refusal) → decide conditions given ≡ refused (number_of k) → Hosts text at H (Err k) H
  unfolding host_left hosted_reply
  refuses k e =
      let r : host_reply text at H ≡ refused (number_of k) = reply_is ∙ e in
      record { reply = sym r; leaves = sym (ap (λ (q : Reply). leaves q H new) r) }

  pub by_2 : outside? ≡ true → Hosts text at H (Err OutsideLimits) H
  by_2 a = refuses OutsideLimits (rw a)

  pub by_3 : outside? ≡ false → lent_short H ≡ true → Hosts text at H (Err TooShort) H
  by_3 a b = refuses TooShort (rw (a, b))

  pub by_4 : outside? ≡ false → lent_short H ≡ false → unsound? ≡ true → Hosts text at H (Err NotSound) H
  by_4 a b d = refuses NotSound (rw (a, b, d))

  module _ (a : outside? ≡ false) (b : lent_short H ≡ false) (d : unsound? ≡ false) where
    pub kept : Kept s H.memory.tables H.memory.log H.memory.out
    kept =
        let l = long H b in
        record {
          tables = l.tables;
          log = l.log;
          out = l.out;
          inside = inside_limits s a;
          sound = λ m. (sound_iff s.g (inside_limits s a m) H.memory.tables H.memory.log).0 (passed s _ d m);
        }

    part_is : served text (length H.replies) (begun at s H.memory) ≡ host_part text at H
    unfolding host_part
    part_is = ap (λ (k : Session). served text (length H.replies) (begun at k H.memory)) is

    pub done : (r : Served) (left : Memory) (replies run : List ℕ) → Serves (served text (length H.replies) (begun at s H.memory)) H.replies r left replies
        → run ≡ sets H.run 0 (run_of r.session) → Hosts text at H (Ok (record { at = r.at; used = r.used }))
        (record { run = run; memory = left; replies = replies })
    unfolding host_left hosted_reply
    done r left replies run v e =
        let n : decide conditions given ≡ accepted given = rw (a, b, d) in
        let q : host_reply text at H ≡ accepted given = reply_is ∙ n in
        let w = part_is in
        record {
          reply =
              ap₂ (λ (x y : ℕ). accepted (x ∷ y ∷ [])) (v.at ∙ ap (λ (p : Part). p.at) w) (v.used ∙ ap (λ (p : Part). length p.replies) w) ∙ sym q;
          leaves =
              lent_of (e ∙ ap (λ (k : Session). sets H.run 0 (run_of k)) (v.session ∙ ap (λ (p : Part). p.session) w))
              (v.memory ∙ ap (λ (p : Part). p.memory) w)
              (v.replies ∙ ap (λ (p : Part). write_at H.replies 0 p.replies) w)
              ∙ sym (ap (λ (z : Reply). leaves z H new) q);
        }
