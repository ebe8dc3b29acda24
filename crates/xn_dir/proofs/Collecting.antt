-- Entries that are taken from an iterator one by one, each with a name, into a list.
use Rattle.std.proofs.Common.{◌≡◌, ◌≢◌, ◌<◌, ℕ, List, [], ◌∷◌, ◌++◌, length, get_or, map, arith, refl, sym, ap, subst, ◌∙◌, append_assoc}
use Rattle.std.specs.Prelude.{All, AllPairs}
use Rattle.std.proofs.lemmas.List.{append-nil, map_push, get_or-map, length-map}
use Rattle.std.proofs.lemmas.List.Elements.{All-nil, All-push}
use Rattle.xn_bytes.specs.Names.{IsName}
use Rattle.xn_bytes.specs.Entries.{Entry}
use Rattle.xn_bytes.specs.Directory.{HasNames}
use Rattle.xn_dir.specs.declared.listing.Listed.{Listed}
use Rattle.xn_dir.specs.Listings.{entry_of, name_of}

-- each entry has a name
abbrev pub HaveNames : List Entry → Type 0
HaveNames entries = All (λ entry. IsName entry.name) entries

-- the entries that were taken, and those that are left
pub record Taken (all : List Entry) (taken : List Listed) (left : List Entry) : Type 0 where
  pub split : all ≡ map entry_of taken ++ left
  pub names : HaveNames (map entry_of taken)

pub none_taken : (all left : List Entry) → left ≡ all → Taken all [] left
none_taken all left same = record { split = sym same; names = All-nil (λ entry. IsName entry.name) }

pub one_taken : (all : List Entry) (taken after_push : List Listed) (left after : List Entry) (listed : Listed) (entry : Entry) → left ≡ entry ∷ after → entry_of listed ≡ entry → IsName entry.name
    → after_push ≡ taken ++ listed ∷ [] → Taken all taken left → Taken all after_push after
one_taken all taken after_push left after listed entry step is named pushed so_far =
    let list : map entry_of after_push ≡ map entry_of taken ++ entry ∷ [] = ap (map entry_of) pushed ∙ map_push entry_of taken listed ∙ ap (λ (e : Entry). map entry_of taken ++ e ∷ []) is in
    record {
      split =
          so_far.split
          ∙ ap (λ (t : List Entry). map entry_of taken ++ t) step
          ∙ sym (append_assoc (map entry_of taken) (entry ∷ []) after)
          ∙ ap (λ (t : List Entry). t ++ after) (sym list);
      names = subst HaveNames (sym list) (All-push (λ e. IsName e.name) (map entry_of taken) entry so_far.names named);
    }

pub all_taken : (all : List Entry) (taken : List Listed) (left : List Entry) → left ≡ [] → Taken all taken left → (map entry_of taken ≡ all) × HaveNames all
all_taken all taken left done so_far =
    let whole : all ≡ map entry_of taken = so_far.split ∙ ap (λ (t : List Entry). map entry_of taken ++ t) done ∙ append-nil (map entry_of taken) in
    (sym whole, subst HaveNames (sym whole) so_far.names)

-- names that stand once in a listing stand once among its entries
apart_at : (listed : List Listed) (i : ℕ) (d : Entry) → i < length (map name_of listed) → (get_or (map entry_of listed) i d).name ≡ get_or (map name_of listed) i d.name
apart_at [] i d below = absurd (omega arith)
apart_at (x ∷ xs) i d below =
    let within : i < length (x ∷ xs) = rw (← length-map (x ∷ xs) name_of) below in
    rw (get_or-map entry_of (x ∷ xs) i x d within, get_or-map name_of (x ∷ xs) i x d.name within) refl

pub names_once : (listed : List Listed) → AllPairs (λ a b. a ≢ b) (map name_of listed) → AllPairs (λ a b. a.name ≢ b.name) (map entry_of listed)
names_once listed once i j d lt below same =
    let within : j < length (map name_of listed) = rw (length-map listed name_of, ← length-map listed entry_of) below in
    once i j d.name lt within (sym (apart_at listed i d (omega arith)) ∙ same ∙ apart_at listed j d within)

pub once_names : (listed : List Listed) → AllPairs (λ a b. a.name ≢ b.name) (map entry_of listed) → AllPairs (λ a b. a ≢ b) (map name_of listed)
once_names [] once i j d lt below same = absurd (omega arith)
once_names (x ∷ xs) once i j d lt below same =
    let e : Entry = record (entry_of x) { name = d } in
    let within : j < length (map entry_of (x ∷ xs)) = rw (length-map (x ∷ xs) entry_of, ← length-map (x ∷ xs) name_of) below in
    once i j e lt within (apart_at (x ∷ xs) i e (omega arith) ∙ same ∙ sym (apart_at (x ∷ xs) j e below))

pub have_names : (all : List Entry) (listed : List Listed) → (map entry_of listed ≡ all) × HaveNames all → AllPairs (λ a b. a ≢ b) (map name_of listed) → HasNames (map entry_of listed)
have_names all listed taken once = record { names = subst HaveNames (sym taken.0) taken.1; once = names_once listed once }

-- right names stand once in a listing of the entries
pub once_among : (all : List Entry) (listed : List Listed) → map entry_of listed ≡ all → HasNames all → AllPairs (λ a b. a ≢ b) (map name_of listed)
once_among all listed same right = once_names listed (subst (AllPairs (λ a b. a.name ≢ b.name)) (sym same) right.once)
