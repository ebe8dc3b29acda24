-- From a command's result to the answer over the image, and from the words that were read to any that they are.
use Rattle.std.proofs.Common.{◌≡◌, ◌≢◌, ℕ, ◌+◌, ◌*◌, ◌≤◌, List, [], ◌∷◌, length, codes, Option, Some, None, inl, inr, ap, sym, subst, ◌∙◌, arith}
use Rattle.std.specs.Prelude.{IfSome, decimal, slice_index}
use Rattle.std.proofs.lemmas.Fmt.{decimal_injective}
use Rattle.xn_meaning.specs.declared.status.Status.{Status}
use Rattle.xn_meaning.specs.declared.status.Status.TheVariants.{Image}
use Rattle.xn_meaning.specs.Manifests.{Manifest, HasPlaces}
use Rattle.xn_meaning.specs.Replies.{image_line}
use Rattle.xn_bytes.specs.Escapes.{escaped}
use Rattle.xn_bytes.specs.Superblock.{Geometry}
use Rattle.xn_meaning.specs.Words.{AsksOf, AsksList, AsksResolve, AsksParents, AsksCheck, AsksNothing}
use Rattle.xn_meaning.specs.Paths.{parts_of}
use Rattle.xn_meaning.specs.NameSpace.{End}
use Rattle.xn_rules.specs.Outcome.{Answers, Reads, ReadsImage, IsManifestIn, geometry_in}
use Rattle.xn_bytes.specs.Inode.{inode_of}
use Rattle.xn_meaning.specs.Reading.{IsAttached}
use Rattle.xn_bytes.specs.Costs.{list_cost}
use Rattle.xn_attr.specs.Costs.{list_most}
use Rattle.xn_bytes.proofs.EscapeLemmas.{one_text}
use Rattle.xn_text.specs.declared.words.Words.{Words}
use Rattle.xn_text.specs.declared.words.Words.TheVariants as commands
use Rattle.xn_text.specs.Asked.{AsksFor}
use Rattle.xfsns.specs.Home.{FindsSuper}
use Rattle.xfsns.specs.Answer.{EndsWith, IsAnswerTo, ReadsFor, CommandReads, ReadsAtMost, ListReads, RefusedReads, ResolveReads, ParentsReads}

-- the answer to an end that a command has over the image whose superblock was found, by a manifest whose places are right
pub over_image : (E : Geometry → Manifest → List ℕ → End → Type 0) (m : Manifest) (image : Option (List ℕ)) (g : Geometry) (ended : Option End) (status : Status) (text : List ℕ)
    → FindsSuper image (Some g) → HasPlaces g m → IfSome ended (λ end. IfSome image (λ x. E g m x end)) → IsAnswerTo ended status text → ReadsImage E m image status text
over_image E m image g None status text found places ends answer = absurd answer
over_image E m None g (Some end) status text found places ends answer = inr (inr (end, answer.0, answer.1, tt))
over_image E m (Some x) g (Some end) status text found places ends answer =
    inr (inr (end, answer.0, answer.1, (found.0, subst (λ (h : Geometry). HasPlaces h m) found.1 places, subst (λ (h : Geometry). E h m x end) found.1 ends)))

-- rule 2 is broken where a place is not right
pub out_of_place : (E : Geometry → Manifest → List ℕ → End → Type 0) (m : Manifest) (image : Option (List ℕ)) (g : Geometry) (status : Status) (text : List ℕ)
    → FindsSuper image (Some g) → (HasPlaces g m → ⊥) → (status ≡ Image) × (text ≡ image_line 2 0 0) → ReadsImage E m image status text
out_of_place E m None g status text found wrong told = inr (inl (told.0, told.1, tt))
out_of_place E m (Some x) g status text found wrong told =
    inr (inl (told.0, told.1, (found.0, subst (λ (h : Geometry). HasPlaces h m → ⊥) found.1 wrong)))

-- what a command answers is answered to the words that ask for it
pub answers_words : (words : List (List ℕ)) (command : Words) (manifest image : Option (List ℕ)) (status : Status) (text : List ℕ)
    → AsksFor words command → Reads (EndsWith command) manifest image status text → Answers words manifest image status text
answers_words words (commands.List ino) manifest image status text asks reads = inr (inl (ino, asks, reads))
answers_words words (commands.Resolve path) manifest image status text asks reads = inr (inr (inl (path, asks, reads)))
answers_words words (commands.Parents ino) manifest image status text asks reads = inr (inr (inr (inl (ino, asks, reads))))
answers_words words commands.Check manifest image status text asks reads = inr (inr (inr (inr (asks, reads))))

-- ---- words are of one form

not_both : (command : List ℕ) (words : List (List ℕ)) (ino : ℕ) (path : List ℕ) → command ≢ codes "resolve" → AsksOf command words ino → AsksResolve words path → ⊥
not_both command words ino path other of walk =
    let of_form = of.form in
    let walk_form = walk.form in
    let same : command ≡ codes "resolve" = cc in
    other same

list_no_path : codes "list" ≢ codes "resolve"
list_no_path = λ same. omega (arith, ap length same)

parents_no_path : codes "parents" ≢ codes "resolve"
parents_no_path = λ same. let first = ap (λ (text : List ℕ). slice_index text 0) same in omega (arith, first)

one_command : (command other : List ℕ) (words : List (List ℕ)) (ino number : ℕ) → AsksOf command words ino → AsksOf other words number → command ≡ other
one_command command other words ino number a b =
    let form = a.form in
    let form_too = b.form in
    let same : command ≡ other = cc in
    same

not_list_and_parents : (words : List (List ℕ)) (ino other : ℕ) → AsksList words ino → AsksParents words other → ⊥
not_list_and_parents words ino other list parents =
    let same : codes "list" ≡ codes "parents" = one_command _ _ words ino other list parents in
    omega (arith, ap length same)

one_path : (words : List (List ℕ)) (path other : List ℕ) → AsksResolve words path → AsksResolve words other → path ≡ other
one_path words path other a b =
    let form = a.form in
    let form_too = b.form in
    let same : escaped path ≡ escaped other = cc in
    one_text path other a.bytes b.bytes same

one_number : (command : List ℕ) (words : List (List ℕ)) (ino other : ℕ) → AsksOf command words ino → AsksOf command words other → ino ≡ other
one_number command words ino other a b =
    let form = a.form in
    let form_too = b.form in
    let same : decimal ino ≡ decimal other = cc in
    decimal_injective ino other a.small b.small same

-- the words of `check` are fewer than those of another form
check_is_short : (words : List (List ℕ)) (a b c d : List ℕ) → AsksCheck words → words ≡ a ∷ b ∷ c ∷ d ∷ [] → ⊥
check_is_short words a b c d check form = let both = sym (ap (λ (all : List (List ℕ)). length all) check.form) ∙ ap (λ (all : List (List ℕ)). length all) form in omega (arith, both)

pub asks_something : (words : List (List ℕ)) (command : Words) → AsksFor words command → AsksNothing words → ⊥
asks_something words (commands.List ino) asks none = none.no_list ino asks
asks_something words (commands.Resolve path) asks none = none.no_resolve path asks
asks_something words (commands.Parents ino) asks none = none.no_parents ino asks
asks_something words commands.Check asks none = none.no_check asks

-- ---- what is read

list_later : (extra first between now : ℕ) → between ≤ first + 1 → now ≤ between + 1 + extra → now ≤ first + 1 + 1 + extra
list_later extra first between now one few = omega (arith, one, few)

walk_later : (extra first between now : ℕ) → between ≤ first + 1 → now ≤ between + extra → now ≤ first + 1 + extra
walk_later extra first between now one few = omega (arith, one, few)

later : (command : Words) (g : Geometry) (m : Manifest) (x : List ℕ) (first between now : ℕ) → between ≤ first + 1 → ReadsAtMost command g m x between now → ReadsAtMost command g m x (first + 1) now
later (commands.List ino) g m x first between now one few = (list_later (list_cost (inode_of g x ino)) first between now one few.0, λ other. let once = few.1 other in omega (arith, one, once))
later (commands.Parents ino) g m x first between now one few = walk_later (list_most (inode_of g x ino)) first between now one few
later commands.Check g m x first between now one few = tt
later (commands.Resolve path) g m x first between now one few = λ most bound. walk_later ((1 + most) * length (parts_of path)) first between now one (few most bound)

-- what a command reads over the image whose superblock was found
pub reads_over_image : (command : Words) (m : Manifest) (image : Option (List ℕ)) (g : Geometry) (first between now : ℕ) → FindsSuper image (Some g) → between ≤ first + 1
    → IfSome image (λ x. ReadsAtMost command g m x between now) → IfSome image (λ x. ReadsAtMost command (geometry_in x) m x (first + 1) now)
reads_over_image command m None g first between now found one few = tt
reads_over_image command m (Some x) g first between now found one few = later command (geometry_in x) m x first between now one (subst (λ (h : Geometry). ReadsAtMost command h m x between now) found.1 few)

-- the superblock alone, or nothing, is no more than any command reads
fewer : (command : Words) (g : Geometry) (m : Manifest) (x : List ℕ) (before now : ℕ) → now ≤ before → ReadsAtMost command g m x before now
fewer (commands.List ino) g m x before now few = (omega (arith, few), λ other. omega (arith, few))
fewer (commands.Parents ino) g m x before now few = omega (arith, few)
fewer commands.Check g m x before now few = tt
fewer (commands.Resolve path) g m x before now few = λ most bound. let extra : ℕ = (1 + most) * length (parts_of path) in let fine : now ≤ before + extra = omega (arith, few) in fine

pub few_reads : (command : Words) (m : Manifest) (image : Option (List ℕ)) (before now : ℕ) → now ≤ before → IfSome image (λ x. ReadsAtMost command (geometry_in x) m x before now)
few_reads command m None before now few = tt
few_reads command m (Some x) before now few = fewer command (geometry_in x) m x before now few

two_more : (extra before now : ℕ) → now ≤ before + 1 + 1 + extra → now ≤ before + 2 + extra
two_more extra before now few = omega (arith, few)

-- a list, and one that is refused, by the manifest that was read
list_reads : (m : Manifest) (image : Option (List ℕ)) (ino before now : ℕ) → IfSome image (λ x. ReadsAtMost (commands.List ino) (geometry_in x) m x (before + 1) now) → ListReads image ino before now
list_reads m None ino before now few = tt
list_reads m (Some x) ino before now few = two_more (list_cost (inode_of (geometry_in x) x ino)) before now few.0

refused_reads : (m : Manifest) (manifest image : Option (List ℕ)) (ino before now : ℕ) → IfSome manifest (λ text. IsManifestIn text m)
    → IfSome image (λ x. ReadsAtMost (commands.List ino) (geometry_in x) m x (before + 1) now) → RefusedReads manifest image ino before now
refused_reads m None image ino before now is few = tt
refused_reads m (Some text) None ino before now is few = tt
refused_reads m (Some text) (Some x) ino before now is few = λ refused. let once = few.1 (refused m is) in omega (arith, once)

-- what was asked of a list
pub asked_list : (g : Geometry) (m : Manifest) (image : Option (List ℕ)) (ino before now : ℕ) → IfSome image (λ x. now ≤ before + 1 + list_cost (inode_of g x ino))
    → IfSome image (λ x. (IsAttached g m (inode_of g x ino) ino → ⊥) → now ≤ before + 1) → IfSome image (λ x. ReadsAtMost (commands.List ino) g m x before now)
asked_list g m None ino before now few refused = tt
asked_list g m (Some x) ino before now few refused = (few, refused)

-- a walk, likewise
resolve_reads : (m : Manifest) (manifest image : Option (List ℕ)) (path : List ℕ) (before now : ℕ) → IfSome manifest (λ text. IsManifestIn text m)
    → IfSome image (λ x. ReadsAtMost (commands.Resolve path) (geometry_in x) m x (before + 1) now) → ResolveReads manifest image path before now
resolve_reads m None image path before now is few = tt
resolve_reads m (Some text) None path before now is few = tt
resolve_reads m (Some text) (Some x) path before now is few = λ most costs. few most (costs m is)

-- what the command reads by the manifest that was read
pub command_reads : (command : Words) (m : Manifest) (manifest image : Option (List ℕ)) (before now : ℕ) → IfSome manifest (λ text. IsManifestIn text m)
    → IfSome image (λ x. ReadsAtMost command (geometry_in x) m x (before + 1) now) → CommandReads command manifest image before now
command_reads (commands.List ino) m manifest image before now is few = (list_reads m image ino before now few, refused_reads m manifest image ino before now is few)
command_reads (commands.Resolve path) m manifest image before now is few = resolve_reads m manifest image path before now is few
command_reads (commands.Parents ino) m manifest image before now is few = few
command_reads commands.Check m manifest image before now is few = tt

-- where there is no manifest nothing is read
none_at_all : (command : Words) (manifest : Option (List ℕ)) (x : List ℕ) (before now : ℕ) → now ≡ before → CommandReads command manifest (Some x) before now
none_at_all (commands.List ino) None x before now same = (omega (arith, same), tt)
none_at_all (commands.List ino) (Some text) x before now same = (omega (arith, same), λ refused. omega (arith, same))
none_at_all (commands.Resolve path) None x before now same = tt
none_at_all (commands.Resolve path) (Some text) x before now same = λ most bound. let extra : ℕ = (1 + most) * length (parts_of path) in let fine : now ≤ before + 1 + extra = omega (arith, same) in fine
none_at_all (commands.Parents ino) manifest x before now same = omega (arith, same)
none_at_all commands.Check manifest x before now same = tt

pub no_reads : (command : Words) (manifest image : Option (List ℕ)) (before now : ℕ) → now ≡ before → CommandReads command manifest image before now
no_reads command manifest (Some x) before now same = none_at_all command manifest x before now same
no_reads (commands.List ino) None None before now same = (tt, tt)
no_reads (commands.List ino) (Some text) None before now same = (tt, tt)
no_reads (commands.Resolve path) None None before now same = tt
no_reads (commands.Resolve path) (Some text) None before now same = tt
no_reads (commands.Parents ino) manifest None before now same = tt
no_reads commands.Check manifest None before now same = tt

-- what the command that was read reads at most is what the words allow
pub reads_for : (words : List (List ℕ)) (command : Words) (manifest image : Option (List ℕ)) (before now : ℕ)
    → AsksFor words command → CommandReads command manifest image before now → ReadsFor words manifest image before now
reads_for words (commands.List ino) manifest image before now asks few = record {
  list = λ other also. subst (λ (n : ℕ). ListReads image n before now) (one_number (codes "list") words ino other asks also) few.0;
  refused = λ other also. subst (λ (n : ℕ). RefusedReads manifest image n before now) (one_number (codes "list") words ino other asks also) few.1;
  resolve = λ path also. absurd (not_both (codes "list") words ino path list_no_path asks also);
  parents = λ other also. absurd (not_list_and_parents words ino other asks also);
}
reads_for words (commands.Resolve path) manifest image before now asks few = record {
  list = λ ino also. absurd (not_both (codes "list") words ino path list_no_path also asks);
  refused = λ ino also. absurd (not_both (codes "list") words ino path list_no_path also asks);
  resolve = λ other also. subst (λ (p : List ℕ). ResolveReads manifest image p before now) (one_path words path other asks also) few;
  parents = λ ino also. absurd (not_both (codes "parents") words ino path parents_no_path also asks);
}
reads_for words (commands.Parents ino) manifest image before now asks few = record {
  list = λ other also. absurd (not_list_and_parents words other ino also asks);
  refused = λ other also. absurd (not_list_and_parents words other ino also asks);
  resolve = λ path also. absurd (not_both (codes "parents") words ino path parents_no_path asks also);
  parents = λ other also. subst (λ (n : ℕ). ParentsReads image n before now) (one_number (codes "parents") words ino other asks also) few;
}
reads_for words commands.Check manifest image before now asks few = record {
  list = λ ino also. absurd (check_is_short words _ _ _ _ asks also.form);
  refused = λ ino also. absurd (check_is_short words _ _ _ _ asks also.form);
  resolve = λ path also. absurd (check_is_short words _ _ _ _ asks also.form);
  parents = λ ino also. absurd (check_is_short words _ _ _ _ asks also.form);
}
