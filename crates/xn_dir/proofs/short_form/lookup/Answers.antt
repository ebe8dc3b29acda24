use Rattle.xn_short.specs.Viewed.{entry_of}
use Rattle.xn_dir.proofs.ShortForms.{found_among}
use Rattle.xn_dir.proofs.short_form.lookup.Goals as goal

pub returns-in-Some-clause-stands : goal.returns-in-Some-clause-stands
returns-in-Some-clause-stands c =
    let found = rw (c.in-Some.is, c.bytes.ensures.value) at c.find.ensures.found in
    let form = c.in_ok-short.ensures.form in
    (c.in_ok-short.short, form.0, form.1, found_among c.args.name.now c.in_ok-short.short.entries (entry_of c.in-Some.entry) found)
