-- What a line prints is its reply, its numbers spelled as those of its call.
use mathlib.Core.Path.{◌≡◌, refl, sym, ap, ◌∙◌}
use mathlib.Core.Bool.{Bool, true, false, cond}
use mathlib.Core.List.{List, [], ◌∷◌, ◌++◌, map}
use mathlib.Core.Option.{some}
use Prim.Native.Nat.{ℕ}
use Rattle.answer.specs.Reply.{Reply, accepted, refused}
use Rattle.answer.proofs.Decided.{decide_accepted}
use Rattle.geometry.specs.declared.Geometry.{Geometry}
use Rattle.geometry.specs.Limits.{fits}
use Rattle.model.specs.Results.{Item, plain, items_of, numbers_of}
use Rattle.model.specs.Calls.{spelling}
use Rattle.model.specs.Command.{Command, command_on}
use Rattle.model.specs.declared.Naming.{Naming}
use Rattle.model.specs.declared.Naming.TheVariants.{Attach, Detach, Resolve}
use Rattle.model.specs.declared.Spelling.TheVariants.{Numbers}
use Rattle.script.specs.declared.parse.Six.{Six}
use Rattle.script.specs.declared.parse.Parsed.{Parsed}
use Rattle.script.specs.declared.parse.Parsed.TheVariants.{Store, Asks, Named, No}
use Rattle.script.specs.Spoken.{Spoken, makes, asks, nothing, spoken_at}
use Rattle.script.specs.ReplyText.{items_text, spelling_of, reply_text, plus, reply_read}
use Rattle.script.proofs.Replies.{printed_read}
use Rattle.ledger.specs.Ledger.{Ledger, account, refusals_of, says}
use Rattle.ledger.specs.Transcript.{Runner, without_store, with_store, asked, line_says, line_gives, text_of, line_text}
use Rattle.ledger.specs.TranscriptMeans.{spelled_as}
use Rattle.ledger.proofs.EachTold.{told}

-- ── a line ──

call_gives : (g : Geometry) (L : Ledger) (c : Command) (ns : List ℕ) → says g L c ≡ accepted ns → numbers_of (account g L c).result ≡ ns
unfolding says
call_gives g L c ns e = (decide_accepted (refusals_of g L c) (numbers_of (account g L c).result) ns e).1

call_spelled : (g : Geometry) (L : Ledger) (c : Command) → text_of (says g L c) (account g L c).result ≡ reply_text (spelling c) (says g L c)
unfolding text_of reply_text
call_spelled g L c = go (says g L c) refl
  where
    go : (A : Reply) → says g L c ≡ A → text_of A (account g L c).result ≡ reply_text (spelling c) A
    go (refused k) e = refl
    go (accepted ns) e =
        ap (λ (l : List Item). 43 ∷ (items_text l ++ (10 ∷ [])))
        (sym ((told c).items g L) ∙ ap (items_of (spelling c)) (call_gives g L c ns e))

store_spelled : (x : Six) (t : Bool) → text_of (cond t (accepted []) (refused 2)) [] ≡ reply_text (spelled_as (makes x)) (cond t (accepted []) (refused 2))
unfolding text_of reply_text items_of
store_spelled x true = refl
store_spelled x false = refl

pub line_spelled : (R : Runner) (p : Spoken) → line_text R p ≡ reply_text (spelled_as p) (line_says R p)
unfolding line_says line_gives text_of reply_text
line_spelled R nothing = refl
line_spelled R (makes x) = store_spelled x (fits (asked x))
line_spelled without_store (asks c) = refl
line_spelled (with_store g L) (asks c) = call_spelled g L c

store_gives : (t : Bool) (ns : List ℕ) → cond t (accepted []) (refused 2) ≡ accepted ns → [] ≡ ns
store_gives true ns e = cc
store_gives false ns e = absurd (not e)
  where
    not : refused 2 ≡ accepted ns → ⊥
    not d = let z : ◌≡◌ {A = ℕ} 0 1 = cc in let w : ⊥ = omega native.Mathlib.Omega.arith in w

pub line_gives_lem : (R : Runner) (p : Spoken) (ns : List ℕ) → line_says R p ≡ accepted ns → numbers_of (line_gives R p) ≡ ns
unfolding line_says line_gives numbers_of
line_gives_lem R nothing ns e = cc
line_gives_lem R (makes x) ns e = store_gives (fits (asked x)) ns e
line_gives_lem without_store (asks c) ns e = cc
line_gives_lem (with_store g L) (asks c) ns e = call_gives g L c ns e

line_items : (R : Runner) (p : Spoken) (ns : List ℕ) → line_says R p ≡ accepted ns → items_of (spelled_as p) ns ≡ line_gives R p
unfolding line_says line_gives items_of
line_items R nothing ns e = cc
line_items R (makes x) ns e = ap {B = List Item} (map plain) (sym (store_gives (fits (asked x)) ns e))
line_items without_store (asks c) ns e = cc
line_items (with_store g L) (asks c) ns e = ap (items_of (spelling c)) (sym (call_gives g L c ns e)) ∙ (told c).items g L

pub line_reads : (R : Runner) (p : Spoken) (ns : List ℕ) → line_says R p ≡ accepted ns → reply_read (line_text R p) ≡ some (plus (line_gives R p))
line_reads R p ns e =
    ap reply_read (line_spelled R p ∙ ap (reply_text (spelled_as p)) e) ∙ printed_read (spelled_as p) (accepted ns) ∙
    ap (λ (l : List Item). some (plus l)) (line_items R p ns e)

-- as code spells it, by what it read of the line: a call on a name gives plain numbers
naming_spelled : (n : Naming) (l : List ℕ) → spelling (command_on n l) ≡ Numbers
naming_spelled (Attach r) l = refl
naming_spelled Detach l = refl
naming_spelled Resolve l = refl

pub spelled_alike : (text : List ℕ) (at : ℕ) (p : Parsed) → spelled_as (spoken_at text at p) ≡ spelling_of p
unfolding spelling_of
spelled_alike text at (Store x) = refl
spelled_alike text at (Asks c) = refl
spelled_alike text at (Named n e) = naming_spelled n _
spelled_alike text at No = refl
