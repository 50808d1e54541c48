use Rattle.std.proofs.Common.{rules, arith, ◌∙◌, ℕ, Option, Some, None, ap, sym}
use Rattle.std.proofs.Math.Path.{fun_ext}
use Rattle.std.proofs.lemmas.Str.Pattern.{split_once_first}
use Rattle.kmip_ttlv_names.specs.NameTables.{first_of, line_of, tag_if, tag_named, tag_in}
use Rattle.kmip_ttlv_names.proofs.{ByName.first_among, Tables.first_tag, Tables.last_tag}
use Rattle.kmip_ttlv_names.proofs.by_name.tags_by_name.Goals as goal

pub lines-preserved : goal.lines-preserved
lines-preserved g c =
    let rest = c.lines.rest.now in
    let line = c.in-Some.line.now in
    let more = c.in-Some.more.now in
    let h = split_once_first 10 rest (Some (c.in-Some.line, c.in-Some.more)) c.in-Some.ensures.cases (omega arith) in
    record {
      text = search rules;
      read = λ name. c.lines.invariant.read name
          ∙ ap (first_of (tag_in c.lines.tags name)) (first_tag name rest line more h.0 h.1 h.2)
          ∙ first_among (tag_in c.lines.tags name) (tag_if name (line_of line)) (tag_named name more)
          ∙ ap (λ (o : Option ℕ). first_of o (tag_named name more)) (sym (c.in_ok-add_tag.ensures name));
    }

pub returns : goal.returns
returns g c =
    let rest = c.lines.rest.now in
    let none = split_once_first 10 rest None c.in_default.ensures.cases (omega arith) in
    fun_ext (λ name. c.in_ok-add_tag-2.ensures name
    ∙ ap (first_of (tag_in c.lines.tags name)) (sym (last_tag name rest none))
    ∙ sym (c.lines.invariant.read name))
