use Rattle.std.proofs.Common.{rules, arith, ◌+◌, ◌<◌, length, Some, None, subst, ap}
use Rattle.std.proofs.lemmas.{Str.Pattern.split_once_first, List.length-drop}
use Rattle.std.specs.List.{position_or_len}
use Rattle.kmip_ttlv_util.specs.TagNames.{name_in}
use Rattle.kmip_ttlv_names.specs.NameTables.{AddsLine, is_line_feed, names_of, bad_line}
use Rattle.kmip_ttlv_names.proofs.Tables.{reading_on, reading_bad, reading_last, reading_good, reading_no_last}
use Rattle.kmip_ttlv_names.proofs.table.tag_names.Goals as goal

pub returns-in-Ok-false-clause-bad : goal.returns-in-Ok-false-clause-bad
unfolding bad_line
returns-in-Ok-false-clause-bad g c =
    let h = split_once_first 10 c.lines.rest.now (Some (c.in-Some.line, c.in-Some.more)) c.in-Some.ensures.cases (omega arith) in
    let add = subst (λ b. AddsLine (name_in c.lines.names) c.in-Some.line.now b (name_in c.add_line.new.names)) c.in-Ok-false.field-0-test
    c.in-Ok-false.ensures in
    reading_bad c.args.table.now c.lines.rest.now c.in-Some.line.now c.in-Some.more.now (name_in c.lines.names) (name_in c.add_line.new.names) c.lines.number
    c.lines.invariant.read h.0 h.1 h.2 add

pub lines-preserved : goal.lines-preserved
lines-preserved g c =
    let h = split_once_first 10 c.lines.rest.now (Some (c.in-Some.line, c.in-Some.more)) c.in-Some.ensures.cases (omega arith) in
    let add = subst (λ b. AddsLine (name_in c.lines.names) c.in-Some.line.now b (name_in c.add_line.new.names)) c.in-Ok-true.field-0-test
    c.in-Ok-true.ensures in
    let less : length c.in-Some.more.now < length c.lines.rest.now =
    omega (arith, ap length h.2, length-drop (position_or_len is_line_feed c.lines.rest.now + 1) c.lines.rest.now, h.0) in
    record {
      text = search rules;
      read = reading_on c.args.table.now c.lines.rest.now c.in-Some.line.now c.in-Some.more.now (name_in c.lines.names) (name_in c.add_line.new.names)
          c.lines.number c.lines.invariant.read h.0 h.1 h.2 less add;
    }

pub returns-in-Ok-true-add_line-clause-names : goal.returns-in-Ok-true-add_line-clause-names
unfolding names_of
returns-in-Ok-true-add_line-clause-names g c =
    let none = split_once_first 10 c.lines.rest.now None c.in_default.ensures.cases (omega arith) in
    let add = subst (λ b. AddsLine (name_in c.lines.names) c.lines.rest.now b (name_in c.add_line-2.new.names)) c.in-Ok-true-add_line.field-0-test
    c.in-Ok-true-add_line.ensures in
    reading_last c.args.table.now c.lines.rest.now (name_in c.lines.names) (name_in c.add_line-2.new.names) c.lines.number c.lines.invariant.read none add

pub returns-in-Ok-true-add_line-clause-good : goal.returns-in-Ok-true-add_line-clause-good
unfolding bad_line
returns-in-Ok-true-add_line-clause-good g c =
    let none = split_once_first 10 c.lines.rest.now None c.in_default.ensures.cases (omega arith) in
    let add = subst (λ b. AddsLine (name_in c.lines.names) c.lines.rest.now b (name_in c.add_line-2.new.names)) c.in-Ok-true-add_line.field-0-test
    c.in-Ok-true-add_line.ensures in
    reading_good c.args.table.now c.lines.rest.now (name_in c.lines.names) (name_in c.add_line-2.new.names) c.lines.number c.lines.invariant.read none add

pub returns-in-Ok-false-add_line-clause-bad : goal.returns-in-Ok-false-add_line-clause-bad
unfolding bad_line
returns-in-Ok-false-add_line-clause-bad g c =
    let none = split_once_first 10 c.lines.rest.now None c.in_default.ensures.cases (omega arith) in
    let add = subst (λ b. AddsLine (name_in c.lines.names) c.lines.rest.now b (name_in c.add_line-2.new.names)) c.in-Ok-false-add_line.field-0-test
    c.in-Ok-false-add_line.ensures in
    reading_no_last c.args.table.now c.lines.rest.now (name_in c.lines.names) (name_in c.add_line-2.new.names) c.lines.number c.lines.invariant.read none add
