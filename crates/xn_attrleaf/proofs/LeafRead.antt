-- The parts of a leaf's check together.
use Rattle.std.proofs.Common.{◌≡◌, ℕ, ◌<◌, List, length, get_or}
use Rattle.std.proofs.lemmas.List.Elements.{All-drop, All-from_get_or}
use Rattle.xn_bytes.specs.AttributeLeaves.{IsAttrLeaf}
use Rattle.xn_attrleaf.specs.Entries.{HasPlaces, IsFramed, IsIndexed}
use Rattle.xn_attrleaf.specs.EntriesRead.{has_room}

pub leaf_from : (bytes : List ℕ) → length bytes ≡ 4096 → ((i : ℕ) → get_or bytes i 0 < 256) → IsFramed bytes → HasPlaces bytes → IsIndexed bytes → IsAttrLeaf bytes
leaf_from bytes whole small framed places indexed = record {
  whole = whole;
  are_bytes = All-drop (λ byte. byte < 256) 56 bytes (All-from_get_or (λ byte. byte < 256) bytes 0 (λ i below. small i));
  is_magic = framed.is_magic;
  checksum = framed.checksum;
  apart = framed.room.apart;
  within = places.within;
  disjoint = indexed.disjoint;
  used = places.used;
  sorted = indexed.sorted;
  hashes = indexed.hashes;
}

pub framed_to : (bytes : List ℕ) → IsAttrLeaf bytes → IsFramed bytes
framed_to bytes leaf = record { is_magic = leaf.is_magic; checksum = leaf.checksum; room = has_room bytes leaf }

pub places_to : (bytes : List ℕ) → IsAttrLeaf bytes → HasPlaces bytes
places_to bytes leaf = record { within = leaf.within; used = leaf.used }

pub indexed_to : (bytes : List ℕ) → IsAttrLeaf bytes → IsIndexed bytes
indexed_to bytes leaf = record { sorted = leaf.sorted; hashes = leaf.hashes; disjoint = leaf.disjoint }
