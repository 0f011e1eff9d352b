-- What the loop over reads keeps: the lengths of the runner's arrays, how much was read, what a session keeps, and what the turns so far leave.
use mathlib.Core.Path.{◌≡◌, sym, ap}
use mathlib.Core.Bool.{Bool, true, false, not, cond, ◌||◌, true≢false}
use mathlib.Core.List.{List}
use Prim.Native.Nat.{ℕ, zero, suc, ◌+◌, ◌-◌, ◌≤◌, ◌<◌}
use native.Mathlib.Omega.{arith}
use lib.Dec.{eqb}
use lib.ListN.{length, take, replicate, length-replicate}
use lib.Seq.{length-take-le}
use Rattle.geometry.specs.Limits.{most_tables, most_log, most_out}
use Rattle.session.specs.declared.Session.{Session}
use Rattle.ledger.specs.Transcript.{most_read}
use Rattle.runner.specs.Turn.{whole_after}
use Rattle.model.specs.Memory.{lent}
use Rattle.session.specs.Step.{no_store, Kept}
use Rattle.runner.proofs.Handing.{Handed, handed_first}

pub record Running (s : Session) (t log out replies text : List ℕ) (n at : ℕ) : Type 0 where
  pub tables : length t ≡ most_tables
  pub words : length log ≡ most_log
  pub numbers : length out ≡ most_out
  pub buffer : length replies ≡ 65536
  pub script : length text ≡ most_read
  pub read : n ≤ most_read
  pub kept : Kept s t log out
  pub handed : Handed text 65536 n at s (lent t log out)

-- a part of a part is inside the whole
pub within : (k n : ℕ) (l : List ℕ) → k ≤ length (take n l) → n ≤ length l → k ≤ length l
within k n l h i = omega (arith, length-take-le n l i)

-- before the first read
pub running : (s : Session) → s ≡ no_store →
    Running s (replicate most_tables 0) (replicate most_log 0) (replicate most_out 0) (replicate 65536 0) (replicate most_read 0) 0 0
running s q =
    let e : s.made ≡ 0 = ap (λ (k : Session). k.made) q in
    let t = length-replicate {A = ℕ} most_tables 0 in
    let l = length-replicate {A = ℕ} most_log 0 in
    let o = length-replicate {A = ℕ} most_out 0 in
    record {
      tables = t;
      words = l;
      numbers = o;
      buffer = l;
      script = l;
      read = omega arith;
      kept = record {
        tables = omega arith;
        log = omega arith;
        out = omega arith;
        inside = λ m. absurd (let z : ⊥ = omega arith in z);
        sound = λ m. absurd (let z : ⊥ = omega arith in z);
      };
      handed = handed_first (replicate most_read 0) 65536 s q;
    }

-- a script that is not whole got at least a byte
some_byte : (more : ℕ) (b : Bool) → (eqb more 0 || b) ≡ false → 0 < more
some_byte zero b e = absurd (true≢false e)
some_byte (suc k) b e = omega arith

some_more : (more all : ℕ) → whole_after more all ≡ false → 0 < more
unfolding whole_after
some_more more all e = some_byte more (eqb all most_read) e

-- so each read that finds the script not whole brings its end nearer
pub turn_less : (whole old : Bool) (n more : ℕ) → not old ≡ true → whole ≡ whole_after more (n + more) → n + more ≤ most_read →
    cond whole 0 1 + (most_read - (n + more)) < cond old 0 1 + (most_read - n)
turn_less true false n more e w l = omega arith
turn_less false false n more e w l = omega (arith, some_more more (n + more) (sym w))
turn_less w true n more e h l = absurd (true≢false (sym e))
