-- A walk of a path, part by part: what the ends from where it is say of the whole path.
use Rattle.std.proofs.Common.{◌≡◌, ℕ, List, [], ◌∷◌, ◌++◌, Option, Some, None, Ok, Err, refl, sym, ap, subst, ◌∙◌, append_assoc, inl, inr}
use Rattle.std.specs.Prelude.{◌≤◌, IfSome}
use Rattle.xn_bytes.specs.Superblock.{Geometry}
use Rattle.xn_meaning.specs.Manifests.{Manifest}
use Rattle.xn_meaning.specs.Paths.{parts_of}
use Rattle.xn_meaning.specs.declared.errno.Errno.{Errno}
use Rattle.xn_meaning.specs.Replies.{ErrorOf, EntryOf}
use Rattle.xn_meaning.specs.NameSpace.{Place as Reached, Step as Taken, End, Says, Breaks, Ends, Goes, Walks, Reaches}
use Rattle.xn_meaning.specs.Reading.{TakesInImage, root_place}
use Rattle.xn_text.specs.declared.reply.Reply.TheVariants as replies
use Rattle.xn_ns.specs.declared.walk.Place.{Place}
use Rattle.xn_ns.specs.declared.walk.Step.TheVariants as steps
use Rattle.xn_ns.specs.declared.fault.SeeFault.{SeeFault}
use Rattle.xn_ns.specs.declared.fault.SeeFault.TheVariants as see
use Rattle.xn_ns.specs.Ends.{Answered}
use Rattle.xn_ns.specs.Steps.{IsTaken, WalkEnds, place_of}
use Rattle.xn_ns.proofs.PartsTaken.{rose_before}

-- a walk that comes to a place ends as the walk of the other parts from there
walks_from : (Takes : Reached → List ℕ → Taken → Type 0) (from here : Reached) (taken rest : List (List ℕ)) (end : End) → Reaches Takes from taken here → Walks Takes here rest end → Walks Takes from (taken ++ rest) end
walks_from Takes from here [] rest end is walk = subst (λ (place : Reached). Walks Takes place rest end) is walk
walks_from Takes from here (part ∷ taken) rest end (next, goes, reaches) walk = inr (next, goes, walks_from Takes next here taken rest end reaches walk)

one_more : (Takes : Reached → List ℕ → Taken → Type 0) (from here next : Reached) (taken : List (List ℕ)) (part : List ℕ) → Reaches Takes from taken here → Takes here part (Goes next) → Reaches Takes from (taken ++ (part ∷ [])) next
one_more Takes from here next [] part is goes = (next, subst (λ (place : Reached). Takes place part (Goes next)) is goes, refl)
one_more Takes from here next (first ∷ taken) part (second, first_goes, reaches) goes = (second, first_goes, one_more Takes second here next taken part reaches goes)

-- the walk of the path has come here, with the rest of it left
abbrev IsOn : Geometry → Manifest → List ℕ → List ℕ → Reached → List (List ℕ) → Type 0
IsOn g m path x here rest = (taken : List (List ℕ)) × (parts_of path ≡ taken ++ rest) × Reaches (TakesInImage g m x) (root_place g) taken here

abbrev pub LeadsHere : Geometry → Manifest → Option (List ℕ) → List ℕ → Reached → List ℕ → Type 0
LeadsHere g m image path here rest = IfSome image (λ x. IsOn g m path x here (parts_of rest))

ends_of : (g : Geometry) (m : Manifest) (path x : List ℕ) (here : Reached) (rest : List (List ℕ)) (end : End) → IsOn g m path x here rest → Walks (TakesInImage g m x) here rest end → WalkEnds g m path x end
ends_of g m path x here rest end (taken, is, reaches) walk = subst (λ (ps : List (List ℕ)). Walks (TakesInImage g m x) (root_place g) ps end) (sym is) (walks_from (TakesInImage g m x) (root_place g) here taken rest end reaches walk)

pub all_taken : (g : Geometry) (m : Manifest) (image : Option (List ℕ)) (path : List ℕ) (here : Place) (rest : List ℕ) (before now : ℕ) → LeadsHere g m image path (place_of here) rest → parts_of rest ≡ []
    → Answered (WalkEnds g m path) image before now (Ok (replies.Entry here.ino here.kind))
all_taken g m None path here rest before now leads none = record { ends = tt; cause = tt }
all_taken g m (Some x) path here rest before now leads none =
    record { ends = ends_of g m path x (place_of here) (parts_of rest) (Says (EntryOf here.ino here.kind)) leads (subst (λ (ps : List (List ℕ)). Walks (TakesInImage g m x) (place_of here) ps (Says (EntryOf here.ino here.kind))) (sym none) refl); cause = tt }

pub goes_on : (g : Geometry) (m : Manifest) (image : Option (List ℕ)) (path : List ℕ) (here : Reached) (rest part behind : List ℕ) (before now : ℕ) (place : Place) → LeadsHere g m image path here rest → parts_of rest ≡ part ∷ parts_of behind
    → IsTaken (λ x. TakesInImage g m x here part) image before now (Ok (steps.Goes place)) → LeadsHere g m image path (place_of place) behind
goes_on g m None path here rest part behind before now place leads parts step = tt
goes_on g m (Some x) path here rest part behind before now place (taken, is, reaches) parts step =
    (taken ++ (part ∷ []), is ∙ ap (λ (ps : List (List ℕ)). taken ++ ps) parts ∙ sym (append_assoc taken (part ∷ []) (parts_of behind)), one_more (TakesInImage g m x) (root_place g) here (place_of place) taken part reaches step.takes)

ends_here : (g : Geometry) (m : Manifest) (x path : List ℕ) (here : Reached) (rest part behind : List ℕ) (end : End) → LeadsHere g m (Some x) path here rest → parts_of rest ≡ part ∷ parts_of behind → TakesInImage g m x here part (Ends end) → WalkEnds g m path x end
ends_here g m x path here rest part behind end leads parts takes =
    ends_of g m path x here (parts_of rest) end leads (subst (λ (ps : List (List ℕ)). Walks (TakesInImage g m x) here ps end) (sym parts) (inl takes))

pub refused_here : (g : Geometry) (m : Manifest) (image : Option (List ℕ)) (path : List ℕ) (here : Reached) (rest part behind : List ℕ) (first before now : ℕ) (error : Errno) → LeadsHere g m image path here rest → parts_of rest ≡ part ∷ parts_of behind
    → IsTaken (λ x. TakesInImage g m x here part) image before now (Ok (steps.Refused error)) → Answered (WalkEnds g m path) image first now (Ok (replies.Error error))
refused_here g m None path here rest part behind first before now error leads parts taken = record { ends = tt; cause = tt }
refused_here g m (Some x) path here rest part behind first before now error leads parts taken = record { ends = ends_here g m x path here rest part behind (Says (ErrorOf error)) leads parts taken.takes; cause = tt }

pub given_up : (g : Geometry) (m : Manifest) (image : Option (List ℕ)) (path : List ℕ) (here : Reached) (rest part behind : List ℕ) (first before now : ℕ) (fault : SeeFault) → LeadsHere g m image path here rest → parts_of rest ≡ part ∷ parts_of behind
    → first ≤ before → IsTaken (λ x. TakesInImage g m x here part) image before now (Err fault) → Answered (WalkEnds g m path) image first now (Err fault)
given_up g m image path here rest part behind first before now see.Read leads parts later taken = record { ends = tt; cause = λ is. rose_before first before now later (taken.cause is) }
given_up g m image path here rest part behind first before now see.Memory leads parts later taken = record { ends = tt; cause = λ is. absurd cc }
given_up g m None path here rest part behind first before now (see.Broken rule inode block) leads parts later taken = record { ends = tt; cause = λ is. absurd cc }
given_up g m (Some x) path here rest part behind first before now (see.Broken rule inode block) leads parts later taken =
    record { ends = ends_here g m x path here rest part behind (Breaks inode rule block) leads parts taken.takes; cause = λ is. absurd cc }
