-- `add` meets its contract: check after check, and the item is stored.
use Rattle.std.proofs.Common.{refl, sym, ap, ◌∙◌, arith, length-take}
use Rattle.std.proofs.lemmas.Bool.{lt-ltb, le-ltb}
use Rattle.std.specs.Option.{is_some}
use Rattle.planfile.proofs.Laws.Tests.{sound-name-iff}
use Rattle.planreader.specs.Items.{fields_in, with_item, Adds}
use Rattle.planreader.specs.Laws.Exits.{exit}
use Rattle.planreader.specs.Laws.Items.{item_by, item-found}
use Rattle.planreader.specs.Laws.Names.{name-unsound, name-new, name-used}
use Rattle.planreader.proofs.items.Items.add.Goals as goal
use Rattle.planreader.proofs.items.Items.add.Goals.{then-not-is_sound-via-then-not-is_sound, then-not-is_sound-via-else-not-is_sound+then-is_some}

pub returns-then-self : goal.returns-then-self
unfolding Adds item_by
returns-then-self g c =
    let count = length-take c.args.self.now.count c.args.self.now.names in
    (item-found g.row.MOST c.args.rule.now _ (fields_in c.args.fields) (sym (le-ltb _ _ (omega arith))) refl refl refl, refl)

pub returns-then-not-is_sound : goal.returns-then-not-is_sound
unfolding Adds item_by
returns-then-not-is_sound g c =
    let count = length-take c.args.self.now.count c.args.self.now.names in
    let room = sym (lt-ltb _ _ (omega arith)) in (
      item-found g.row.MOST c.args.rule.now _ (fields_in c.args.fields) room
          (elim c.then-not-is_sound.branch [
            | then-not-is_sound-via-then-not-is_sound w ↦ name-unsound _ _ c.is_sound.ensures w.if-not-is_sound.true
            | then-not-is_sound-via-else-not-is_sound+then-is_some w ↦
                name-used _ _ c.is_sound.ensures (w.is_some.ensures ∙ ap is_some w.find.ensures) w.if-not-is_sound.false w.if-is_some.true
          ])
          refl refl,
      refl,
    )

pub returns-in_err-first : goal.returns-in_err-first
unfolding Adds item_by
returns-in_err-first g c =
    let count = length-take c.args.self.now.count c.args.self.now.names in
    let room = sym (lt-ltb _ _ (omega arith)) in
    let used = c.is_some.ensures ∙ ap is_some c.find.ensures in
    let named = name-new c.args.fields.name.now _ c.is_sound.ensures used c.if-not-is_sound.false c.if-is_some.false in
    let (none, is) = exit c.from_residual.result c.from_residual.ensures.1 c.in_err-first.ensures.value in
    rw is (item-found g.row.MOST c.args.rule.now _ (fields_in c.args.fields) room named (sym none ∙ c.in_range.ensures) refl, refl)

pub returns-in_err-second : goal.returns-in_err-second
unfolding Adds item_by
returns-in_err-second g c =
    let count = length-take c.args.self.now.count c.args.self.now.names in
    let room = sym (lt-ltb _ _ (omega arith)) in
    let used = c.is_some.ensures ∙ ap is_some c.find.ensures in
    let named = name-new c.args.fields.name.now _ c.is_sound.ensures used c.if-not-is_sound.false c.if-is_some.false in
    let first = sym c.in_ok-first.ensures.ok_part ∙ c.in_range.ensures in
    let (none, is) = exit c.from_residual-in_err-second.result c.from_residual-in_err-second.ensures.1 c.in_err-second.ensures.value in
    rw is (item-found g.row.MOST c.args.rule.now _ (fields_in c.args.fields) room named first (sym none ∙ c.in_range-2.ensures), refl)

pub of-requires : goal.of-requires
of-requires g c = ((sound-name-iff c.args.fields.name.now).0 (sym c.is_sound.ensures ∙ c.if-not-is_sound.false)).size.most

pub returns : goal.returns
unfolding Adds with_item item_by
returns g c =
    let count = length-take c.args.self.now.count c.args.self.now.names in
    let room = sym (lt-ltb _ _ (omega arith)) in
    let used = c.is_some.ensures ∙ ap is_some c.find.ensures in
    let named = name-new c.args.fields.name.now _ c.is_sound.ensures used c.if-not-is_sound.false c.if-is_some.false in
    let first = sym c.in_ok-first.ensures.ok_part ∙ c.in_range.ensures in
    let second = sym c.in_ok-second.ensures.ok_part ∙ c.in_range-2.ensures in (
      record { first = c.in_ok-first.first; second = c.in_ok-second.second },
      item-found g.row.MOST c.args.rule.now _ (fields_in c.args.fields) room named first second,
      rw c.of.ensures,
    )
