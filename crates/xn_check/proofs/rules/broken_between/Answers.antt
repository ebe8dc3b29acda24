use Rattle.std.proofs.Common.{◌≡◌, ◌∙◌, ap, map}
use Rattle.std.proofs.lemmas.Bool.{MatchBool-at_false, MatchBool-at_true}
use Rattle.xn_rules.specs.Namings.{naming}
use Rattle.xn_names.specs.Names.{naming_of}
use Rattle.xn_rules.specs.NameRules.{BreaksDots, BreaksEntries, BreaksRecords, BreaksTree}
use Rattle.xn_check.specs.Known.{BreaksTwelve, HoldsDots, HoldsEntries, HoldsRecords, HoldsTree, HoldsTwelve, meant}
use Rattle.xn_check.proofs.RecordLemmas.{generations_among}
use Rattle.xn_check.proofs.WholesFound.{whole_is_of}
use Rattle.xn_check.proofs.BetweenLemmas.{dots_first, entries_first, links_first, place_first, records_first}
use Rattle.xn_check.proofs.rules.broken_between.Goals as goal

pub returns-then-not-links_are_right : goal.returns-then-not-links_are_right
returns-then-not-links_are_right c m image names_hold live holds =
    let g = c.args.geometry.now in
    let names = c.args.names.now in
    let ino = c.args.node.now.ino in
    let known = whole_is_of g m image names ino c.deref.result.now c.whole_of-whole.result c.deref.ensures.value names_hold live c.whole_of-whole.ensures in
    let breaks = MatchBool-at_false (HoldsTwelve g m image (meant names) ino) (BreaksTwelve g m image (meant names) ino)
    c.if-not-links_are_right.true (c.links_are_right.ensures m image known holds) in
    links_first g m image (meant names) ino
    c.of_rule.result c.of_rule.ensures breaks

pub returns-then-not-entries_are_right : goal.returns-then-not-entries_are_right
returns-then-not-entries_are_right c m image names_hold live holds =
    let g = c.args.geometry.now in
    let names = c.args.names.now in
    let ino = c.args.node.now.ino in
    let known = whole_is_of g m image names ino c.deref.result.now c.whole_of-whole.result c.deref.ensures.value names_hold live c.whole_of-whole.ensures in
    let links = MatchBool-at_true (HoldsTwelve g m image (meant names) ino) (BreaksTwelve g m image (meant names) ino)
    c.if-not-links_are_right.false (c.links_are_right.ensures m image known holds) in
    let breaks = MatchBool-at_false (HoldsEntries g m image ino) (BreaksEntries g m image ino)
    c.if-not-entries_are_right.true (c.entries_are_right.ensures g m image (meant names) ino known) in
    entries_first g m image (meant names) ino
    c.of_rule-then-not-entries_are_right.result c.of_rule-then-not-entries_are_right.ensures links breaks

pub returns-then-not-dots_are_right : goal.returns-then-not-dots_are_right
returns-then-not-dots_are_right c m image names_hold live holds =
    let g = c.args.geometry.now in
    let names = c.args.names.now in
    let ino = c.args.node.now.ino in
    let known = whole_is_of g m image names ino c.deref.result.now c.whole_of-whole.result c.deref.ensures.value names_hold live c.whole_of-whole.ensures in
    let links = MatchBool-at_true (HoldsTwelve g m image (meant names) ino) (BreaksTwelve g m image (meant names) ino)
    c.if-not-links_are_right.false (c.links_are_right.ensures m image known holds) in
    let entries = MatchBool-at_true (HoldsEntries g m image ino) (BreaksEntries g m image ino)
    c.if-not-entries_are_right.false (c.entries_are_right.ensures g m image (meant names) ino known) in
    let breaks = MatchBool-at_false (HoldsDots g m image (meant names) ino) (BreaksDots g m image (meant names) ino)
    c.if-not-dots_are_right.true (c.dots_are_right.ensures m image ino known) in
    dots_first g m image (meant names) ino
    c.of_rule-then-not-dots_are_right.result c.of_rule-then-not-dots_are_right.ensures links entries breaks

pub returns-then-not-place_is_right : goal.returns-then-not-place_is_right
returns-then-not-place_is_right c m image names_hold live holds =
    let g = c.args.geometry.now in
    let names = c.args.names.now in
    let ino = c.args.node.now.ino in
    let known = whole_is_of g m image names ino c.deref.result.now c.whole_of-whole.result c.deref.ensures.value names_hold live c.whole_of-whole.ensures in
    let links = MatchBool-at_true (HoldsTwelve g m image (meant names) ino) (BreaksTwelve g m image (meant names) ino)
    c.if-not-links_are_right.false (c.links_are_right.ensures m image known holds) in
    let entries = MatchBool-at_true (HoldsEntries g m image ino) (BreaksEntries g m image ino)
    c.if-not-entries_are_right.false (c.entries_are_right.ensures g m image (meant names) ino known) in
    let dots = MatchBool-at_true (HoldsDots g m image (meant names) ino) (BreaksDots g m image (meant names) ino)
    c.if-not-dots_are_right.false (c.dots_are_right.ensures m image ino known) in
    let breaks = MatchBool-at_false (HoldsTree g m image (meant names) ino) (BreaksTree g m image (meant names) ino)
    c.if-not-place_is_right.true (c.place_is_right.ensures m image ino names_hold known) in
    place_first g m image (meant names) ino
    c.of_rule-then-not-place_is_right.result c.of_rule-then-not-place_is_right.ensures links entries dots breaks

pub returns-then-not-records_are_right : goal.returns-then-not-records_are_right
returns-then-not-records_are_right c m image names_hold live holds =
    let g = c.args.geometry.now in
    let names = c.args.names.now in
    let ino = c.args.node.now.ino in
    let known = whole_is_of g m image names ino c.deref.result.now c.whole_of-whole.result c.deref.ensures.value names_hold live c.whole_of-whole.ensures in
    let links = MatchBool-at_true (HoldsTwelve g m image (meant names) ino) (BreaksTwelve g m image (meant names) ino)
    c.if-not-links_are_right.false (c.links_are_right.ensures m image known holds) in
    let entries = MatchBool-at_true (HoldsEntries g m image ino) (BreaksEntries g m image ino)
    c.if-not-entries_are_right.false (c.entries_are_right.ensures g m image (meant names) ino known) in
    let dots = MatchBool-at_true (HoldsDots g m image (meant names) ino) (BreaksDots g m image (meant names) ino)
    c.if-not-dots_are_right.false (c.dots_are_right.ensures m image ino known) in
    let place = MatchBool-at_true (HoldsTree g m image (meant names) ino) (BreaksTree g m image (meant names) ino)
    c.if-not-place_is_right.false (c.place_is_right.ensures m image ino names_hold known) in
    let run = c.naming_near-named.result.now in
    let viewed : map naming_of run ≡ naming ino (meant names) = c.naming_near-named.ensures.viewed ∙ ap (λ ns. naming ino (map naming_of ns)) c.deref-2.ensures.value in
    let generations = generations_among g image ino run c.deref-2.result.now names.namings.items c.naming_near-named.ensures.are c.deref-2.ensures.value names_hold.generations in
    let breaks = MatchBool-at_false (HoldsRecords g image (meant names) ino) (BreaksRecords g image (meant names) ino)
    c.if-not-records_are_right.true (c.records_are_right.ensures g image (meant names) viewed generations holds) in
    records_first g m image (meant names) ino
    c.of_rule-then-not-records_are_right.result c.of_rule-then-not-records_are_right.ensures links entries dots place breaks

pub returns : goal.returns
returns c m image names_hold live holds =
    let g = c.args.geometry.now in
    let names = c.args.names.now in
    let ino = c.args.node.now.ino in
    let known = whole_is_of g m image names ino c.deref.result.now c.whole_of-whole.result c.deref.ensures.value names_hold live c.whole_of-whole.ensures in
    let links = MatchBool-at_true (HoldsTwelve g m image (meant names) ino) (BreaksTwelve g m image (meant names) ino)
    c.if-not-links_are_right.false (c.links_are_right.ensures m image known holds) in
    let entries = MatchBool-at_true (HoldsEntries g m image ino) (BreaksEntries g m image ino)
    c.if-not-entries_are_right.false (c.entries_are_right.ensures g m image (meant names) ino known) in
    let dots = MatchBool-at_true (HoldsDots g m image (meant names) ino) (BreaksDots g m image (meant names) ino)
    c.if-not-dots_are_right.false (c.dots_are_right.ensures m image ino known) in
    let place = MatchBool-at_true (HoldsTree g m image (meant names) ino) (BreaksTree g m image (meant names) ino)
    c.if-not-place_is_right.false (c.place_is_right.ensures m image ino names_hold known) in
    let run = c.naming_near-named.result.now in
    let viewed : map naming_of run ≡ naming ino (meant names) = c.naming_near-named.ensures.viewed ∙ ap (λ ns. naming ino (map naming_of ns)) c.deref-2.ensures.value in
    let generations = generations_among g image ino run c.deref-2.result.now names.namings.items c.naming_near-named.ensures.are c.deref-2.ensures.value names_hold.generations in
    let records = MatchBool-at_true (HoldsRecords g image (meant names) ino) (BreaksRecords g image (meant names) ino)
    c.if-not-records_are_right.false (c.records_are_right.ensures g image (meant names) viewed generations holds) in
    record { links = links; entries = entries; dots = dots; place = place; records = records }
