-- An answer that was told, whole or in part, is the outcome.
use Rattle.std.proofs.Common.{◌≡◌, ℕ, ◌<◌, ◌≤◌, List, ◌++◌, length, take, Option, Some, None, inl, inr, sym, subst, ◌∙◌, ap, arith}
use Rattle.std.specs.Prelude.{MatchOption, option_map, ◌⊎◌}
use Rattle.xn_meaning.specs.declared.status.Status.{Status}
use Rattle.xn_meaning.specs.declared.status.Status.TheVariants.{Done, Usage, Image, Manifest as BadManifest, ReadFault, SayFault, Memory, Long}
use Rattle.xn_bytes.specs.Causes.{Rose}
use Rattle.xn_meaning.specs.NameSpace.{End, Says, Sums, Breaks}
use Rattle.xn_meaning.specs.Reading.{ListEnds, ResolveEnds, ParentsEnd}
use Rattle.xn_rules.specs.Checking.{CheckEnds}
use Rattle.xn_rules.specs.Outcome.{Answers, Reads, ReadsImage, end_status, Outside, Tells, Outcome, FailsToSay}
use Rattle.xn_bytes.specs.Superblock.{Geometry}
use Rattle.xn_meaning.specs.Manifests.{Manifest}
use Rattle.xn_machine.specs.Device.{TellsFront}
use Rattle.xfsns.specs.Answer.{IsOfWhole}

-- ---- no answer has the status of a fault

abbrev IsAnswered : Status → Type 0
IsAnswered Done = Unit {0}
IsAnswered Usage = Unit {0}
IsAnswered Image = Unit {0}
IsAnswered BadManifest = Unit {0}
IsAnswered ReadFault = ⊥
IsAnswered SayFault = ⊥
IsAnswered Memory = ⊥
IsAnswered Long = Unit {0}

end_is_answered : (end : End) → IsAnswered (end_status end)
end_is_answered (Says reply) = tt
end_is_answered (Sums summary) = tt
end_is_answered (Breaks inode rule block) = tt

image_answered : (E : Geometry → Manifest → List ℕ → End → Type 0) (m : Manifest) (image : Option (List ℕ)) (status : Status) (text : List ℕ) → ReadsImage E m image status text → IsAnswered status
image_answered E m image status text reads = elim reads [
  | inl none ↦ subst IsAnswered (sym none.0) tt
  | inr (inl out) ↦ subst IsAnswered (sym out.0) tt
  | inr (inr end) ↦ subst IsAnswered (sym end.1) (end_is_answered end.0)
]

reads_answered : (E : Geometry → Manifest → List ℕ → End → Type 0) (manifest image : Option (List ℕ)) (status : Status) (text : List ℕ) → Reads E manifest image status text → IsAnswered status
reads_answered E manifest image status text reads = elim reads [
  | inl (inl long) ↦ subst IsAnswered (sym long.0) tt
  | inl (inr line) ↦ subst IsAnswered (sym line.2) tt
  | inr over ↦ image_answered E over.0 image status text over.3
]

is_answered : (words : List (List ℕ)) (manifest image : Option (List ℕ)) (status : Status) (text : List ℕ) → Answers words manifest image status text → IsAnswered status
is_answered words manifest image status text answer = elim answer [
  | inl usage ↦ subst IsAnswered (sym usage.is_usage) tt
  | inr (inl list) ↦ reads_answered (λ g m. ListEnds g m list.0) manifest image status text list.2
  | inr (inr (inl walk)) ↦ reads_answered (λ g m. ResolveEnds g m walk.0) manifest image status text walk.2
  | inr (inr (inr (inl parents))) ↦ reads_answered (λ g m. ParentsEnd g m parents.0) manifest image status text parents.2
  | inr (inr (inr (inr check))) ↦ reads_answered CheckEnds manifest image status text check.1
]

-- ---- what is told

tells : (before now : Option (List ℕ)) (bytes : List ℕ) → now ≡ option_map (λ told. told ++ bytes) before → MatchOption before (now ≡ None) (λ told. now ≡ Some (told ++ bytes))
tells None now bytes same = same
tells (Some told) now bytes same = same

told_whole : (words : List (List ℕ)) (before now : Outside) (status : Status) (text : List ℕ) → Answers words before.manifest before.image status text → IsAnswered status → IsOfWhole status now.manifest
    → Tells before now text → Outcome words before now status
told_whole words before now Done text answer is ended whole = ((text, answer, whole), ended)
told_whole words before now Usage text answer is ended whole = (text, answer, whole)
told_whole words before now Image text answer is ended whole = ((text, answer, whole), ended)
told_whole words before now BadManifest text answer is ended whole = ((text, answer, whole), ended)
told_whole words before now ReadFault text answer is ended whole = absurd is
told_whole words before now SayFault text answer is ended whole = absurd is
told_whole words before now Memory text answer is ended whole = absurd is
told_whole words before now Long text answer is ended whole = (text, answer, whole)

-- An answer over manifest and image, told from a moment at which nothing was told yet.
pub is_outcome : (words : List (List ℕ)) (before now : Outside) (status : Status) (text : List ℕ) (told : Option (List ℕ)) (faults : ℕ) (result : Status)
    → Answers words before.manifest before.image status text → IsOfWhole status now.manifest → told ≡ before.told → before.say_faults ≤ faults
    → ((result ≡ status) × (now.told ≡ option_map (λ t. t ++ text) told)) ⊎ ((result ≡ SayFault) × (0 < length text) × Rose faults now.say_faults × TellsFront told now.told text)
    → Outcome words before now result
is_outcome words before now status text told faults result answer ended same later ends = elim ends [
  | inl whole ↦
      subst (Outcome words before now) (sym whole.0)
      (told_whole words before now status text answer (is_answered words before.manifest before.image status text answer) ended
      (tells before.told now.told text (whole.1 ∙ ap (option_map (λ t. t ++ text)) same)))
  | inr front ↦
      let fails : FailsToSay words before now = record {
        rose = let r = front.2 in omega arith;
        status = status;
        text = text;
        some = front.1;
        answer = answer;
        count = front.3.0;
        front = tells before.told now.told (take front.3.0 text) (front.3.1 ∙ ap (option_map (λ t. t ++ take front.3.0 text)) same);
      } in
      subst (Outcome words before now) (sym front.0) fails
]
