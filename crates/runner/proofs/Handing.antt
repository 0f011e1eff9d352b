-- What is handed on from turn to turn: the run stands where the turns of the reads so far leave it.
use mathlib.Core.Path.{◌≡◌, refl, sym, ap, ◌∙◌}
use mathlib.Core.Bool.{Bool, false, cond}
use mathlib.Core.List.{List, [], ◌∷◌}
use Prim.Native.Nat.{ℕ, suc, ◌+◌, ◌≤◌}
use native.Mathlib.Omega.{arith}
use lib.ListN.{length, take, replicate}
use lib.Seq.{length-take-le, take-take}
use Rattle.geometry.specs.Limits.{most_tables, most_log, most_out}
use Rattle.model.specs.Memory.{Memory, lent}
use Rattle.session.specs.declared.Session.{Session}
use Rattle.session.specs.Step.{no_store}
use Rattle.serving.specs.Part.{Part, begun}
use Rattle.serving.specs.Transcribed.{parts_most}
use Rattle.runner.specs.declared.Answered.{Answered}
use Rattle.runner.specs.Turn.{whole_after, part_end, answered, failed, parts_served, Answers}
use Rattle.runner.specs.Printed.{turned}
use Rattle.runner.proofs.Feeds.{part_inside}
use Rattle.runner.proofs.PrintedProof.{turned_is}

-- how many bytes the reads brought, the last read first
abbrev total : List ℕ → ℕ
total [] = 0
total (more ∷ before) = total before + more

-- where a part stands, without its replies: they were written
abbrev state : Part → Part
state p = begun p.at p.session p.memory

-- what the turns of the reads leave
abbrev ran : List ℕ → ℕ → List ℕ → Part → Part
ran text room [] p = p
ran text room (more ∷ before) p = state (turned text room (total before) more (ran text room before p))

-- before the first read
abbrev pub first : Part
first = begun 0 no_store (lent (replicate most_tables 0) (replicate most_log 0) (replicate most_out 0))

pub record Handed (text : List ℕ) (room n at : ℕ) (s : Session) (M : Memory) : Type 0 where
  reads : List ℕ
  many : n ≡ total reads
  stands : begun at s M ≡ ran text room reads first

pub handed_first : (text : List ℕ) (room : ℕ) (s : Session) → s ≡ no_store →
    Handed text room 0 0 s (lent (replicate most_tables 0) (replicate most_log 0) (replicate most_out 0))
handed_first text room s e = record {
  reads = [];
  many = refl;
  stands = ap (λ (k : Session). begun 0 k (lent (replicate most_tables 0) (replicate most_log 0) (replicate most_out 0))) e;
}

-- a turn looks at the bytes read so far alone
turned_front : (text text' : List ℕ) (room n more : ℕ) (p : Part) → take (n + more) text ≡ take (n + more) text' →
    turned text room n more p ≡ turned text' room n more p
unfolding turned
turned_front text text' room n more p e = ap (λ (l : List ℕ). parts_most (length (answered l n)) (answered l n) room p) e

ran_front : (text text' : List ℕ) (room : ℕ) (reads : List ℕ) (p : Part) → take (total reads) text ≡ take (total reads) text' →
    ran text room reads p ≡ ran text' room reads p
ran_front text text' room [] p e = refl
ran_front text text' room (more ∷ before) p e =
    let n : ℕ = total before in
    let f : take n text ≡ take n text' =
    sym (take-take n (n + more) text (omega arith)) ∙ ap (take n) e ∙ take-take n (n + more) text' (omega arith) in
    ap (λ (q : Part). state (turned text room n more q)) (ran_front text text' room before p f)
    ∙ ap state (turned_front text text' room n more (ran text' room before p) e)

state_as : {a : ℕ} {s : Session} {M : Memory} (q : Part) → a ≡ q.at → s ≡ q.session → M ≡ q.memory → begun a s M ≡ state q
state_as q x y z = cc

-- what an answer without a failed write leaves
answer_leaves : (text buffer : List ℕ) (p : Part) (r : Answered) (left : Memory) (after : List ℕ) → Answers text buffer p r left after → failed r ≡ false →
    begun r.at r.session left ≡ state (parts_most (length text) text (length buffer) p)
answer_leaves text buffer p r left after a f =
    let n : ℕ = a.written in
    let w : parts_served r n ≡ n = ap (λ (b : Bool). cond b (suc n) n) f in
    let q : parts_most (parts_served r n) text (length buffer) p ≡ parts_most n text (length buffer) p =
    ap (λ (k : ℕ). parts_most k text (length buffer) p) w in
    state_as (parts_most n text (length buffer) p) a.at (a.session ∙ ap (λ (x : Part). x.session) q) (a.memory ∙ ap (λ (x : Part). x.memory) q)
    ∙ ap (λ (k : ℕ). state (parts_most k text (length buffer) p)) (a.all f)

-- one turn more
pub handed_on : (text text' : List ℕ) (room n more at end : ℕ) (s : Session) (M : Memory) (whole : Bool) (buffer : List ℕ) (r : Answered) (left : Memory)
    (after : List ℕ) → Handed text room n at s M → take n text' ≡ take n text → n + more ≤ length text' → whole ≡ whole_after more (n + more) →
    end ≡ part_end (take (n + more) text') n whole → Answers (take end text') buffer (begun at s M) r left after → failed r ≡ false → length buffer ≡ room →
    Handed text' room (n + more) r.at r.session left
handed_on text text' room n more at end s M whole buffer r left after h front here w e a f size =
    let u : ℕ = part_end (take (n + more) text') n (whole_after more (n + more)) in
    let end_is : end ≡ u = e ∙ ap (part_end (take (n + more) text') n) w in
    let low : u ≤ length text' = omega (arith, part_inside (take (n + more) text') n (whole_after more (n + more)), length-take-le (n + more) text' here) in
    let l : length (take end text') ≡ u = ap (λ (k : ℕ). length (take k text')) end_is ∙ length-take-le u text' low in
    let before : begun at s M ≡ ran text' room h.reads first =
    h.stands ∙ ran_front text text' room h.reads first (ap (λ (k : ℕ). take k text) (sym h.many) ∙ sym front ∙ ap (λ (k : ℕ). take k text') h.many) in
    record {
      reads = more ∷ h.reads;
      many = ap (λ (k : ℕ). k + more) h.many;
      stands =
          answer_leaves (take end text') buffer (begun at s M) r left after a f
          ∙ ap (λ (k : ℕ). state (parts_most k (take end text') (length buffer) (begun at s M))) l
          ∙ ap (λ (k : ℕ). state (parts_most u (take k text') (length buffer) (begun at s M))) end_is
          ∙ ap (λ (k : ℕ). state (parts_most u (take u text') k (begun at s M))) size
          ∙ ap state (sym (turned_is text' room n more here (begun at s M)))
          ∙ ap (λ (k : ℕ). state (turned text' room k more (begun at s M))) h.many
          ∙ ap (λ (q : Part). state (turned text' room (total h.reads) more q)) before;
    }
