-- The two laws of attributes in short form: a fork with no fault begins with the attributes that are read in it, and a fork
-- that begins with attributes has no fault, and these are read.
use Rattle.std.proofs.Common.{◌≡◌, ℕ, zero, suc, ◌+◌, ◌^◌, ◌<◌, ◌≤◌, true, List, [], ◌∷◌, ◌++◌, length, map, slice_index, take, drop, Some, None, refl, sym, ap, subst, ◌∙◌, append_assoc, arith}
use Rattle.std.specs.Prelude.{sum_by}
use Rattle.std.specs.List.{flat_map, AllByRecursion}
use Rattle.std.proofs.lemmas.List.{drop_at, drop_more, drop-drop, get_or-drop, take-append-drop, length-drop, length-take-le}
use Rattle.std.proofs.lemmas.List.Concat.{flat_map-cons}
use Rattle.std.proofs.lemmas.List.Elements.{All-from_recursion}
use Rattle.std.proofs.lemmas.List.Sums.{sum_by-cons}
use Rattle.std.proofs.lemmas.Nat.{be_bytes_2}
use Rattle.byteorder.specs.Endian.{big_number, big_bytes}
use Rattle.byteorder.specs.Numbers.{big_from-take, big_from-lt, big_number-reads_back, length-bytes_high_first}
use Rattle.xn_bytes.specs.declared.attribute.Attribute.{Attribute}
use Rattle.xn_bytes.specs.Numbers.{number_at}
use Rattle.xn_bytes.specs.ShortAttributes.{ShortAttribute, ShortAttributes, short_attribute_size, short_attributes_size, short_attribute_spelling, short_attributes_spelling, FitsShortAttribute, IsShortAttributes, attribute_of_short, ShortAttributesHold, front_size, front_attribute, attributes_in, attributes_there, short_attributes_fault}
use Rattle.xn_attrleaf.specs.ShortChecks.{attributes_at_front}
use Rattle.xn_bytes.specs.AttributeRoom.{bytes_of_value, short_size_of}
use Rattle.xn_attrleaf.proofs.ShortAttribute.{IsBytes, IsBytes-drop, IsBytes-take, front_spelled, front_fits, attribute_stands}
use Rattle.xn_attrleaf.proofs.ShortEnds.{there_split, there_more, has_no_fault, passes}

length-attributes_in : (count : ℕ) (rest : List ℕ) → length (attributes_in count rest) ≡ count
unfolding attributes_in
length-attributes_in zero rest = refl
length-attributes_in (suc count) rest = ap suc (length-attributes_in count (drop (front_size rest) rest))

-- ---- attributes that are all there

record AreRead (rest : List ℕ) (attributes : List ShortAttribute) : Type 0 where
  pub after : List ℕ
  pub spelled : rest ≡ flat_map short_attribute_spelling attributes ++ after
  pub fit : AllByRecursion FitsShortAttribute attributes

attributes_read : (count : ℕ) (rest : List ℕ) → IsBytes rest → attributes_there count rest ≡ true → AreRead rest (attributes_in count rest)
unfolding attributes_in
attributes_read zero rest fits there = record { after = rest; spelled = refl; fit = tt }
attributes_read (suc count) rest fits there =
    let parts = there_split count rest there in
    let size : ℕ = front_size rest in
    let others = attributes_read count (drop size rest) (IsBytes-drop size rest fits) parts.1 in
    let attribute : ShortAttribute = front_attribute rest in
    let attributes : List ShortAttribute = attributes_in count (drop size rest) in
    record {
      after = others.after;
      spelled =
          front_spelled rest parts.0
          ∙ ap (λ (t : List ℕ). short_attribute_spelling attribute ++ t) others.spelled
          ∙ sym (append_assoc (short_attribute_spelling attribute) (flat_map short_attribute_spelling attributes) others.after)
          ∙ ap (λ (t : List ℕ). t ++ others.after) (sym (flat_map-cons short_attribute_spelling attribute attributes));
      fit = (front_fits rest fits parts.0, others.fit);
    }

-- ---- a fork with no fault

two_bytes : (bytes : List ℕ) → IsBytes bytes → 2 ≤ length bytes → big_bytes 2 (number_at 2 0 bytes) ≡ take 2 bytes
unfolding number_at
two_bytes bytes fits long =
    let e = big_from-take 0 2 2 bytes (omega arith) in
    be_bytes_2 (take 2 bytes) (big_number 2 bytes) (length-take-le 2 bytes long) (IsBytes-take 2 bytes fits) (omega (arith, e))

two_bytes_low : (bytes : List ℕ) → IsBytes bytes → number_at 2 0 bytes < 2 ^ 16
unfolding number_at
two_bytes_low bytes fits = omega (arith, big_from-lt 0 2 bytes fits)

spelled_by : (fork : List ℕ) (form : ShortAttributes) (rest : List ℕ) → IsBytes fork → 4 ≤ length fork → number_at 2 0 fork ≡ short_attributes_size form.attributes → length form.attributes ≡ slice_index fork 2 → form.padding ≡ slice_index fork 3
    → drop 4 fork ≡ flat_map short_attribute_spelling form.attributes ++ rest → fork ≡ short_attributes_spelling form ++ rest
spelled_by fork form rest fits long size count padding behind =
    let spelled : List ℕ = flat_map short_attribute_spelling form.attributes in
    let e0 : fork ≡ take 2 fork ++ drop 2 fork = sym (take-append-drop 2 fork) in
    let first : take 2 fork ≡ big_bytes 2 (short_attributes_size form.attributes) = sym (two_bytes fork fits (omega arith)) ∙ ap (big_bytes 2) size in
    let e2 : drop 2 fork ≡ slice_index fork 2 ∷ drop 3 fork = drop_more fork 2 0 (omega arith) in
    let e3 : drop 3 fork ≡ slice_index fork 3 ∷ drop 4 fork = drop_more fork 3 0 (omega arith) in
    let whole : fork ≡ big_bytes 2 (short_attributes_size form.attributes) ++ (length form.attributes ∷ form.padding ∷ (spelled ++ rest)) =
    e0
    ∙ ap (λ (t : List ℕ). t ++ drop 2 fork) first
    ∙ ap (λ (t : List ℕ). big_bytes 2 (short_attributes_size form.attributes) ++ t) (
    e2
    ∙ ap (λ (t : List ℕ). slice_index fork 2 ∷ t) (e3 ∙ ap (λ (t : List ℕ). slice_index fork 3 ∷ t) behind)
    ∙ ap (λ (n : ℕ). n ∷ slice_index fork 3 ∷ (spelled ++ rest)) (sym count)
    ∙ ap (λ (n : ℕ). length form.attributes ∷ n ∷ (spelled ++ rest)) (sym padding)
    ) in
    whole ∙ sym (append_assoc (big_bytes 2 (short_attributes_size form.attributes)) (length form.attributes ∷ form.padding ∷ spelled) rest)

pub form_read : (fork : List ℕ) → IsBytes fork → short_attributes_fault fork ≡ None → ShortAttributesHold fork (attributes_at_front fork)
form_read fork fits e =
    let h = has_no_fault fork e in
    let count : ℕ = slice_index fork 2 in
    let attributes : List ShortAttribute = attributes_in count (drop 4 fork) in
    let read = attributes_read count (drop 4 fork) (IsBytes-drop 4 fork fits) h.there in
    let form : ShortAttributes = record { padding = slice_index fork 3; attributes = attributes } in
    let counted : length attributes ≡ count = length-attributes_in count (drop 4 fork) in
    let low : count < 256 = fits 2 in
    record {
      form = form;
      lawful = record {
        count = omega (arith, counted);
        size = omega (arith, two_bytes_low fork fits, h.size);
        padding = fits 3;
        fit = All-from_recursion FitsShortAttribute attributes read.fit;
      };
      rest = read.after;
      spelled = spelled_by fork form read.after fits h.long h.size counted refl read.spelled;
      are = refl;
    }

-- ---- a fork that begins with attributes

record Again (attributes : List ShortAttribute) (rest : List ℕ) : Type 0 where
  pub there : attributes_there (length attributes) (flat_map short_attribute_spelling attributes ++ rest) ≡ true
  pub read : attributes_in (length attributes) (flat_map short_attribute_spelling attributes ++ rest) ≡ attributes

attributes_again : (attributes : List ShortAttribute) (rest : List ℕ) → Again attributes rest
unfolding attributes_there attributes_in
attributes_again [] rest = record { there = refl; read = refl }
attributes_again (attribute ∷ attributes) rest =
    let tail : List ℕ = flat_map short_attribute_spelling attributes ++ rest in
    let text : List ℕ = short_attribute_spelling attribute ++ tail in
    let stands = attribute_stands attribute tail in
    let others = attributes_again attributes rest in
    let regrouped : flat_map short_attribute_spelling (attribute ∷ attributes) ++ rest ≡ text = ap (λ (t : List ℕ). t ++ rest) (flat_map-cons short_attribute_spelling attribute attributes) ∙ append_assoc (short_attribute_spelling attribute) (flat_map short_attribute_spelling attributes) rest in
    record {
      there =
          ap (attributes_there (suc (length attributes))) regrouped
          ∙ there_more (length attributes) text stands.there
          ∙ ap (attributes_there (length attributes)) stands.behind
          ∙ others.there;
      read =
          ap (attributes_in (suc (length attributes))) regrouped
          ∙ ap (λ (one : ShortAttribute). one ∷ attributes_in (length attributes) (drop (front_size text) text)) stands.read
          ∙ ap (λ (t : List ℕ). attribute ∷ attributes_in (length attributes) t) stands.behind
          ∙ ap (λ (t : List ShortAttribute). attribute ∷ t) others.read;
    }

pub record IsReadAs (fork : List ℕ) (attributes : List Attribute) : Type 0 where
  pub sound : short_attributes_fault fork ≡ None
  pub read : attributes_at_front fork ≡ attributes

spelling_read : (form : ShortAttributes) (rest : List ℕ) → IsShortAttributes form → IsReadAs (short_attributes_spelling form ++ rest) (map attribute_of_short form.attributes)
unfolding number_at
spelling_read form rest lawful =
    let spelled : List ℕ = flat_map short_attribute_spelling form.attributes in
    let text : List ℕ = short_attributes_spelling form ++ rest in
    let total : ℕ = short_attributes_size form.attributes in
    let regrouped : text ≡ big_bytes 2 total ++ (length form.attributes ∷ form.padding ∷ (spelled ++ rest)) = append_assoc (big_bytes 2 total) (length form.attributes ∷ form.padding ∷ spelled) rest in
    let size : number_at 2 0 text ≡ total = ap (big_number 2) regrouped ∙ big_number-reads_back 2 total (length form.attributes ∷ form.padding ∷ (spelled ++ rest)) lawful.size in
    let t2 : drop 2 text ≡ length form.attributes ∷ form.padding ∷ (spelled ++ rest) = ap (drop 2) regrouped ∙ drop_at (big_bytes 2 total) (length form.attributes ∷ form.padding ∷ (spelled ++ rest)) 2 (length-bytes_high_first 2 total) in
    let count : slice_index text 2 ≡ length form.attributes = sym (get_or-drop 2 text 0 0) ∙ ap (λ (t : List ℕ). slice_index t 0) t2 in
    let t4 : drop 4 text ≡ spelled ++ rest = sym (drop-drop 2 2 text) ∙ ap (drop 2) t2 in
    let again = attributes_again form.attributes rest in
    let read : attributes_in (slice_index text 2) (drop 4 text) ≡ form.attributes = rw (count, t4) again.read in
    let there : attributes_there (slice_index text 2) (drop 4 text) ≡ true = rw (count, t4) again.there in
    let long : 4 ≤ length text = omega (arith, ap length t2, length-drop 2 text) in
    record {
      sound = passes text (record { long = long; there = there; size = size ∙ ap short_attributes_size (sym read) });
      read = ap (map attribute_of_short) read;
    }

pub holds_read : (fork : List ℕ) (attributes : List Attribute) → ShortAttributesHold fork attributes → IsReadAs fork attributes
holds_read fork attributes holds =
    let read : IsReadAs fork (map attribute_of_short holds.form.attributes) = subst (λ (t : List ℕ). IsReadAs t (map attribute_of_short holds.form.attributes)) (sym holds.spelled) (spelling_read holds.form holds.rest holds.lawful) in
    record { sound = read.sound; read = read.read ∙ sym holds.are }

pub none_with_fault : (fork : List ℕ) (at : ℕ) → short_attributes_fault fork ≡ Some at → (attributes : List Attribute) → ShortAttributesHold fork attributes → ⊥
none_with_fault fork at wrong attributes holds =
    let sound = (holds_read fork attributes holds).sound in
    absurd cc

-- ---- sizes

size_of_each : (attributes : List ShortAttribute) → sum_by (λ attribute. 3 + length attribute.name + bytes_of_value attribute.value) (map attribute_of_short attributes) ≡ sum_by short_attribute_size attributes
size_of_each [] = refl
size_of_each (attribute ∷ attributes) =
    sum_by-cons (λ attribute. 3 + length attribute.name + bytes_of_value attribute.value) (attribute_of_short attribute) (map attribute_of_short attributes)
    ∙ ap (λ (n : ℕ). short_attribute_size attribute + n) (size_of_each attributes)
    ∙ sym (sum_by-cons short_attribute_size attribute attributes)

-- the attributes take as much as their spellings
pub size_of_all : (attributes : List ShortAttribute) → short_size_of (map attribute_of_short attributes) ≡ short_attributes_size attributes
size_of_all attributes = ap (λ (n : ℕ). 4 + n) (size_of_each attributes)

-- ---- one list

pub short_once : (fork : List ℕ) (attributes others : List Attribute) → ShortAttributesHold fork attributes → ShortAttributesHold fork others → attributes ≡ others
short_once fork attributes others holds too = sym (holds_read fork attributes holds).read ∙ (holds_read fork others too).read
