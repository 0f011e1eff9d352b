-- A USE FOR EACH STATEMENT about hosts and transcripts, by the statement's name. Each use needs the statement's full strength.
use mathlib.Core.Path.{◌≡◌, refl}
use mathlib.Core.Bool.{false}
use mathlib.Core.Logic.{◌⊎◌, inl, inr}
use mathlib.Core.List.{List, [], ◌∷◌}
use Prim.Native.Nat.{ℕ, ◌≤◌}
use native.Mathlib.Omega.{arith}
use lib.ListN.{length, get_or, take}
use Rattle.answer.specs.Reply.{accepted, refused}
use Rattle.answer.proofs.Cases.{cases}
use Rattle.geometry.specs.Limits.{Inside}
use Rattle.model.specs.Layout.{state_of}
use Rattle.model.specs.Memory.{Memory}
use Rattle.session.specs.declared.Session.{Session}
use Rattle.ledger.specs.Transcript.{most_read}
use Rattle.ledger.proofs.Computed.{bytes, prints}
use Rattle.serving.specs.Part.{begun, longest, served, served_most}
use Rattle.serving.specs.Host.{Lent, lent_short, host_part, host_reply, host_left}
use Rattle.serving.specs.Transcribed.{looked, Ample, hosted}
use Rattle.serving.specs.HostMeans.{StoreMade, six, AllLent, SoundLent}
use Rattle.serving.proofs.HostMeaning.{hosts_mean}
use Rattle.serving.proofs.TranscriptProof.{runner_prints}
use Rattle.serving.proofs.TranscriptHost.{host_gets}

-- ── A PART FOR A HOST ──

-- `two`, from right to left: `store 1 4 2 4 8 9` was made, it is said; whatever else is lent, be it nothing, that is the refusal
pub nine_made : (text : List ℕ) (at : ℕ) (M : Memory) (replies : List ℕ) →
    host_reply text at (record { run = 1 ∷ 1 ∷ 4 ∷ 2 ∷ 4 ∷ 8 ∷ 9 ∷ []; memory = M; replies = replies }) ≡ refused 2
nine_made text at M replies =
    (hosts_mean text at (record { run = 1 ∷ 1 ∷ 4 ∷ 2 ∷ 4 ∷ 8 ∷ 9 ∷ []; memory = M; replies = replies })).two.1
    (omega arith, λ i. omega (arith, i.words_least))

module _ (text : List ℕ) (at : ℕ) (H : Lent) where
  -- from left to right: as long as no store was made, its numbers do not matter
  pub none_made_not_2 : get_or H.run 0 0 ≡ 0 → host_reply text at H ≡ refused 2 → ⊥
  none_made_not_2 z e = let (made, outside) = (hosts_mean text at H).two.0 e in omega (arith, made, z)

  -- nor are six numbers inside the limits refused 2
  pub inside_not_2 : Inside (six H) → host_reply text at H ≡ refused 2 → ⊥
  inside_not_2 inside e = let (made, outside) = (hosts_mean text at H).two.0 e in outside inside

  -- `three`, from right to left: one number, or one byte, of one of the five is missing; no store was made
  pub one_missing : get_or H.run 0 0 ≡ 0 →
      (length H.run ≡ 6) ⊎
      ((length H.memory.tables ≡ 43007) ⊎
      ((length H.memory.log ≡ 65535) ⊎ ((length H.memory.out ≡ 4159) ⊎ (length H.replies ≡ 49179)))) → host_reply text at H ≡ refused 3
  one_missing z short =
      (hosts_mean text at H).three.1 (
        λ made. absurd (omega (arith, made, z)),
        cases short
            (λ e. inl (omega (arith, e)))
            (λ a. inr (cases a
            (λ e. inl (omega (arith, e)))
            (λ b. inr (cases b (λ e. inl (omega (arith, e))) (λ c. inr (cases c (λ e. inl (omega (arith, e))) (λ e. inr (omega (arith, e))))))))),
      )

  -- from left to right: what is answered 3 was not to be answered 2
  pub past_2 : host_reply text at H ≡ refused 3 → StoreMade H → Inside (six H)
  past_2 e = let (inside, short) = (hosts_mean text at H).three.0 e in inside

  -- the five lengths: seven numbers, 43,008 numbers, 65,536 bytes, 4,160 numbers, 49,180 bytes
  abbrev Lengths : Type 0
  Lengths = (7 ≤ length H.run) × (43008 ≤ length H.memory.tables) × (65536 ≤ length H.memory.log) × (4160 ≤ length H.memory.out) ×
      (49180 ≤ length H.replies)

  lengths : AllLent H → Lengths
  lengths all = (all.run, all.tables, all.log, all.out, all.replies)

  module _ (all : AllLent H) where
    -- from left to right: nothing is too short
    pub all_lent_not_3 : host_reply text at H ≡ refused 3 → ⊥
    all_lent_not_3 e =
        let (inside, short) = (hosts_mean text at H).three.0 e in
        cases short
        (λ h. omega (arith, h, all.run))
        (λ a. cases a
        (λ h. omega (arith, h, all.tables))
        (λ b. cases b (λ h. omega (arith, h, all.log)) (λ c. cases c (λ h. omega (arith, h, all.out)) (λ h. omega (arith, h, all.replies)))))

    -- `four`, from right to left: the counter is no arena's number
    pub unsound_is_4 : StoreMade H → Inside (six H) → get_or H.memory.tables 7 0 ≡ (six H).arenas → host_reply text at H ≡ refused 4
    unfolding state_of
    unsound_is_4 made inside e = (hosts_mean text at H).four.1 (made, (inside, (all, λ s. omega (arith, s.range.counter, e))))

    -- `done`, from right to left: before a store is made any tables do; of an empty text nothing is served
    pub nothing_served : get_or H.run 0 0 ≡ 0 → host_reply [] at H ≡ accepted (at ∷ 0 ∷ [])
    unfolding host_part served served_most
    nothing_served z =
        let never : StoreMade H → ⊥ = λ made. omega (arith, made, z) in
        ((hosts_mean [] at H).done (at ∷ 0 ∷ [])).1 (λ made. absurd (never made), (all, (λ made. absurd (never made), refl)))

  -- `four`, from left to right: as long as no store was made, tables that are not sound do not matter
  pub none_made_not_4 : get_or H.run 0 0 ≡ 0 → host_reply text at H ≡ refused 4 → ⊥
  none_made_not_4 z e = let (made, rest) = (hosts_mean text at H).four.0 e in omega (arith, made, z)

  -- sound tables are not answered 4; what is has numbers inside the limits, and all that is to be lent
  pub sound_not_4 : SoundLent H → host_reply text at H ≡ refused 4 → ⊥
  sound_not_4 sound e = let (made, (inside, (all, unsound))) = (hosts_mean text at H).four.0 e in unsound sound

  pub past_3 : host_reply text at H ≡ refused 4 → Inside (six H) × Lengths
  past_3 e = let (made, (inside, (all, unsound))) = (hosts_mean text at H).four.0 e in (inside, lengths all)

  -- `done`, from left to right: so has what is served; of an empty text the numbers given are the position and 0
  pub past_4 : (l : List ℕ) → host_reply text at H ≡ accepted l → (StoreMade H → Inside (six H)) × Lengths
  past_4 l e = let (inside, (all, (sound, is))) = ((hosts_mean text at H).done l).0 e in (inside, lengths all)

  pub nothing_more : (l : List ℕ) → host_reply [] at H ≡ accepted l → l ≡ at ∷ 0 ∷ []
  unfolding host_part served served_most
  nothing_more l e = let (inside, (all, (sound, is))) = ((hosts_mean [] at H).done l).0 e in is

  -- a store that is served has sound tables and log
  pub served_is_sound : (l : List ℕ) → host_reply text at H ≡ accepted l → StoreMade H → SoundLent H
  served_is_sound l e = let (inside, (all, (sound, is))) = ((hosts_mean text at H).done l).0 e in sound

  -- `refusal`: run, tables, log, result buffer and replies stay
  pub refused_leaves : (n : ℕ) → host_reply text at H ≡ refused n → host_left text at H ≡ H
  refused_leaves = (hosts_mean text at H).refusal

-- ── THE TRANSCRIPT ──

abbrev script : List ℕ
script = bytes "store 1 4 2 4 8 10\nB\n"

-- `runner_prints`: the first line is looked at before the second is there; whatever the buffer's length, and whatever stood in the memory
pub two_looks : (room : ℕ) (s : Session) (M : Memory) → longest ≤ room → s.made ≡ 0 → Ample M →
    (looked (take most_read script) room (19 ∷ 21 ∷ []) (begun 0 s M)).replies ≡ bytes "+\n+ 1\n"
unfolding prints
two_looks room s M h z a =
    runner_prints script room (19 ∷ 21 ∷ []) s M h (omega arith, (omega arith, (inr (inl refl), (omega arith, (omega arith, (inr (inr refl), refl)))))) z a

-- `host_gets`: from a run whose first number is 0, whatever else is lent
pub host_gets_it : (H : Lent) → lent_short H ≡ false → get_or H.run 0 0 ≡ 0 → hosted 21 script 0 H ≡ bytes "+\n+ 1\n"
unfolding prints
host_gets_it H short z = host_gets script H short z
