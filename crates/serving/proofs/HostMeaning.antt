-- A part served for a host: each refusal exactly, and acceptance. The statement is `HostsMean` in specs/HostMeans.antt.
use mathlib.Core.Path.{◌≡◌, sym, ap}
use mathlib.Core.Bool.{Bool, not, ◌&&◌}
use mathlib.Core.List.{List, [], ◌∷◌}
use Prim.Native.Nat.{ℕ, ◌<◌}
use native.Mathlib.Omega.{arith}
use lib.Dec.{eqb}
use lib.ListN.{length, get_or}
use lib.Seq.{sets}
use borrow.Author.Tests.{eqb-true, eqb-false, eq-eqb, ne_eqb, not-true, not-false}
use Rattle.answer.specs.Reply.{Reply, accepted, refused}
use Rattle.answer.specs.Refusal.{Condition, leaves}
use Rattle.answer.proofs.Decided.{accepted_same}
use Rattle.geometry.specs.declared.Geometry.{Geometry}
use Rattle.geometry.specs.Limits.{Inside, most_tables, most_log, most_out}
use Rattle.alloc_log.specs.Word.{write_at}
use Rattle.model.specs.Memory.{sound?}
use Rattle.ledger.proofs.Exactly.{Means, less, either_of, both_of, outside, apart, not_accepted, here, later}
use Rattle.ledger.proofs.MemoryMeaning.{is_unsound}
use Rattle.serving.specs.Part.{Part, longest}
use Rattle.serving.specs.Host.{Lent, run_of, lent_short, host_conditions, host_part, host_reply, host_left}
use Rattle.serving.specs.HostMeans.{StoreMade, six, AllLent, SomeShort, SoundLent, HostsMean}

-- a store was made, or none was
is_made : (n : ℕ) → Means (not (eqb n 0)) (0 < n) (n ≡ 0)
is_made n = record {
  says = record {
    holds = λ e. let z = eqb-false n 0 (not-true (eqb n 0) e) in omega (arith, z);
    passes = λ h. ap not (ne_eqb n 0 (λ e. omega (arith, h, e)));
  };
  denies = record {
    holds = λ e. eqb-true n 0 (not-false (eqb n 0) (not-true (not (eqb n 0)) e));
    passes = λ e. ap (λ b. not (not b)) (eq-eqb n 0 e);
  };
}

is_short : (H : Lent) → Means (lent_short H) (SomeShort H) (AllLent H)
unfolding lent_short
is_short H =
    let m =
    either_of (less (length H.run) 7)
    (either_of (less (length H.memory.tables) most_tables)
    (either_of (less (length H.memory.log) most_log)
    (either_of (less (length H.memory.out) most_out) (less (length H.replies) longest)))) in
    record {
      says = m.says;
      denies = record {
        holds = λ e. let (run, (tables, (log, (out, replies)))) = m.denies.holds e in record {
          run = run;
          tables = tables;
          log = log;
          out = out;
          replies = replies;
        };
        passes = λ a. m.denies.passes (a.run, (a.tables, (a.log, (a.out, a.replies))));
      };
    }

-- EACH REFUSAL OF A PART EXACTLY, AND ACCEPTANCE
pub hosts_mean : HostsMean
unfolding host_reply host_left host_conditions
hosts_mean text at H =
    let g : Geometry = six H in
    let t : List ℕ = H.memory.tables in
    let log : List ℕ = H.memory.log in
    let made : Bool = not (eqb (get_or H.run 0 0) 0) in
    let p : Part = host_part text at H in
    let l : List ℕ = p.at ∷ length p.replies ∷ [] in
    let three : List Condition = (4, made && not (sound? g t log)) ∷ [] in
    let two : List Condition = (3, lent_short H) ∷ three in
    let is : Means made (StoreMade H) (get_or H.run 0 0 ≡ 0) = is_made (get_or H.run 0 0) in
    let outside-2 = both_of is (λ h. outside g) in
    let unsound : (StoreMade H → Inside g) → Means (made && not (sound? g t log)) (StoreMade H × (SoundLent H → ⊥)) (StoreMade H → SoundLent H) =
    λ i. both_of is (λ h. is_unsound g (i h) t log) in
    let four =
    later outside-2 2 two l (refused 4) (apart (λ e. omega arith))
    (λ i. later (is_short H) 3 three l (refused 4) (apart (λ e. omega arith)) (λ k. here (unsound i) 4 [] l tt)) in
    record {
      two = here outside-2 2 two l (omega arith, (omega arith, tt));
      three = later outside-2 2 two l (refused 3) (apart (λ e. omega arith)) (λ i. here (is_short H) 3 three l (omega arith, tt));
      four = (
        λ e. let (inside, (enough, (h, bad))) = four.0 e in (h, (inside h, (enough, bad))),
        λ w. let (h, (inside, (enough, bad))) = w in four.1 (λ k. inside, (enough, (h, bad))),
      );
      done = λ m.
          later outside-2 2 two l (accepted m) not_accepted
          (λ i. later (is_short H) 3 three l (accepted m) not_accepted
          (λ k. later (unsound i) 4 [] l (accepted m) not_accepted (λ s. (λ e. sym (accepted_same e), λ e. ap accepted (sym e)))));
      refusal = λ n e. ap (λ (r : Reply). leaves r H (record {
        run = sets H.run 0 (run_of p.session);
        memory = p.memory;
        replies = write_at H.replies 0 p.replies;
      })) e;
    }
