use Rattle.std.proofs.Common.{rules, arith, Bool, ◌+◌, ◌<◌, true, false, length, Some, None, subst, ap}
use Rattle.std.proofs.lemmas.{Str.Pattern.split_once_first, List.length-drop}
use Rattle.std.specs.List.{position_or_len}
use Rattle.kmip_ttlv_util.specs.TagNames.{name_in}
use Rattle.kmip_ttlv_names.specs.NameTables.{is_line_feed, names_of}
use Rattle.kmip_ttlv_names.specs.OwnNames.{AddsOwn, value_names_of, bad_own_line}
use Rattle.kmip_ttlv_names.proofs.Owns.{own_on, own_bad, own_last, own_end}
use Rattle.kmip_ttlv_names.proofs.own.own_names.Goals as goal

pub returns-in-Ok-false-clause-bad : goal.returns-in-Ok-false-clause-bad
unfolding bad_own_line
returns-in-Ok-false-clause-bad g c =
    let h = split_once_first 10 c.lines.rest.now (Some (c.in-Some.line, c.in-Some.more)) c.in-Some.ensures.cases (omega arith) in
    let add = subst (λ (b : Bool). AddsOwn (name_in c.lines.names.tags) (name_in c.lines.names.values) c.in-Some.line.now b
    (name_in c.add_own_line.new.names.tags) (name_in c.add_own_line.new.names.values)) c.in-Ok-false.field-0-test c.in-Ok-false.ensures in
    own_bad c.args.table.now c.lines.rest.now _ _ _ _ c.lines.number c.lines.invariant.read c.in-Some.line.now c.in-Some.more.now h.0 h.1 h.2 add

pub lines-preserved : goal.lines-preserved
lines-preserved g c =
    let h = split_once_first 10 c.lines.rest.now (Some (c.in-Some.line, c.in-Some.more)) c.in-Some.ensures.cases (omega arith) in
    let add = subst (λ (b : Bool). AddsOwn (name_in c.lines.names.tags) (name_in c.lines.names.values) c.in-Some.line.now b
    (name_in c.add_own_line.new.names.tags) (name_in c.add_own_line.new.names.values)) c.in-Ok-true.field-0-test c.in-Ok-true.ensures in
    let less : length c.in-Some.more.now < length c.lines.rest.now =
    omega (arith, ap length h.2, length-drop (position_or_len is_line_feed c.lines.rest.now + 1) c.lines.rest.now, h.0) in
    record {
      text = search rules;
      read = own_on c.args.table.now c.lines.rest.now _ _ _ _ c.lines.number c.lines.invariant.read c.in-Some.line.now c.in-Some.more.now h.0 h.1 h.2 less add;
    }

pub returns-in-Ok-true-add_own_line-clause-tags : goal.returns-in-Ok-true-add_own_line-clause-tags
unfolding names_of
returns-in-Ok-true-add_own_line-clause-tags g c =
    let none = split_once_first 10 c.lines.rest.now None c.in_default.ensures.cases (omega arith) in
    let add = subst (λ (b : Bool). AddsOwn (name_in c.lines.names.tags) (name_in c.lines.names.values) c.lines.rest.now b
    (name_in c.add_own_line-2.new.names.tags) (name_in c.add_own_line-2.new.names.values)) c.in-Ok-true-add_own_line.field-0-test
    c.in-Ok-true-add_own_line.ensures in
    (own_last c.args.table.now c.lines.rest.now _ _ _ _ c.lines.number c.lines.invariant.read none add).0

pub returns-in-Ok-true-add_own_line-clause-values : goal.returns-in-Ok-true-add_own_line-clause-values
unfolding value_names_of
returns-in-Ok-true-add_own_line-clause-values g c =
    let none = split_once_first 10 c.lines.rest.now None c.in_default.ensures.cases (omega arith) in
    let add = subst (λ (b : Bool). AddsOwn (name_in c.lines.names.tags) (name_in c.lines.names.values) c.lines.rest.now b
    (name_in c.add_own_line-2.new.names.tags) (name_in c.add_own_line-2.new.names.values)) c.in-Ok-true-add_own_line.field-0-test
    c.in-Ok-true-add_own_line.ensures in
    (own_last c.args.table.now c.lines.rest.now _ _ _ _ c.lines.number c.lines.invariant.read none add).1

pub returns-in-Ok-true-add_own_line-clause-good : goal.returns-in-Ok-true-add_own_line-clause-good
unfolding bad_own_line
returns-in-Ok-true-add_own_line-clause-good g c =
    let none = split_once_first 10 c.lines.rest.now None c.in_default.ensures.cases (omega arith) in
    let add = subst (λ (b : Bool). AddsOwn (name_in c.lines.names.tags) (name_in c.lines.names.values) c.lines.rest.now b
    (name_in c.add_own_line-2.new.names.tags) (name_in c.add_own_line-2.new.names.values)) c.in-Ok-true-add_own_line.field-0-test
    c.in-Ok-true-add_own_line.ensures in
    own_end c.args.table.now c.lines.rest.now _ _ _ _ c.lines.number c.lines.invariant.read true none add

pub returns-in-Ok-false-add_own_line-clause-bad : goal.returns-in-Ok-false-add_own_line-clause-bad
unfolding bad_own_line
returns-in-Ok-false-add_own_line-clause-bad g c =
    let none = split_once_first 10 c.lines.rest.now None c.in_default.ensures.cases (omega arith) in
    let add = subst (λ (b : Bool). AddsOwn (name_in c.lines.names.tags) (name_in c.lines.names.values) c.lines.rest.now b
    (name_in c.add_own_line-2.new.names.tags) (name_in c.add_own_line-2.new.names.values)) c.in-Ok-false-add_own_line.field-0-test
    c.in-Ok-false-add_own_line.ensures in
    own_end c.args.table.now c.lines.rest.now _ _ _ _ c.lines.number c.lines.invariant.read false none add
