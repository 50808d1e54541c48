use Rattle.std.proofs.Common.{◌∙◌, ap, ap₂, refl, subst, sym}
use Rattle.kmip_ttlv_types.specs.Held.{held, Says}
use Rattle.kmip_ttlv_types.proofs.Held.{rests}
use Rattle.std.specs.Prelude.{codes, string_bytes}
use Rattle.kmip_ttlv_names.specs.NameTables.{bad_line}
use Rattle.ttlv_run.specs.Tools.{done, refused, lacks_table, lacks_tag, lacks_path, bad_names, memory_ended, HasBadLine, no_memory_line, word_of, line_of}
use Rattle.ttlv_run.specs.Tools.{names_for, with_look, with_path}
use Rattle.ttlv_run.proofs.{Asking.inputs_as, Asking.tags_as, Asking.lacks_as, OwnTables.own_secrets}
use Rattle.ttlv_run.proofs.tool.run_request.Goals as goal

pub returns : goal.returns
returns g c =
    let of = held g.E.Sink.emitted g.E.Sink.room in
    let asked = c.args.request.now.asked in
    let only = c.as_slice-3.result in
    let path = c.as_slice-4.result in
    done (string_bytes c.in-Ok.read.0) (string_bytes c.in-Ok.read.1) only path
    c.in_default.is
    c.in-Ok.ensures.ok
    (ap bad_line (sym c.as_str-4.ensures.value) ∙ c.in-Ok-names_in.ensures.tags_alone)
    (tags_as c.as_str.ensures.value c.as_slice.ensures.value (sym c.as_slice-3.ensures.value) c.in-Ok-tags_of.ensures.ok)
    (tags_as c.as_str-2.ensures.value c.as_slice-2.ensures.value (sym c.as_slice-4.ensures.value) c.in-Ok-tags_of-2.ensures.ok)
    (inputs_as _ _ _ _ _ _ _ _ _ _ _ _ _ _ (c.in-Ok-names_in.ensures.names ∙ ap₂ names_for c.as_str-3.ensures.value c.as_str-4.ensures.value)
    (c.with_path-asked.ensures ∙ ap (λ k. with_path k path) (c.with_look-looked.ensures ∙ ap (λ k. with_look asked k only) c.is_colored-colored.ensures))
    c.as_slice-5.ensures.value
    (ap (λ e. record { opener = c.args.opener.now; output = held g.W.Sink.emitted g.W.Sink.room c.args.output.now; errors = of e })
    (c.in-Ok-tags_of-2.ensures.quiet ∙ c.in-Ok-tags_of.ensures.quiet ∙ c.in-Ok.ensures.quiet))
    c.run_inputs.ensures)

pub returns-in-Some : goal.returns-in-Some
returns-in-Some g c =
    let left = g.R.Source.left c.args.stdin.now in
    c.run_comparison.ensures c.args.terminal g.R.Source.can_fail left left

pub returns-in-Err : goal.returns-in-Err
returns-in-Err g c = let h = c.in-Err.ensures.err in refused h.0 (lacks_table h.1) h.2 (rests _)

pub returns-in-Err-tags_of : goal.returns-in-Err-tags_of
returns-in-Err-tags_of g c =
    let of = held g.E.Sink.emitted g.E.Sink.room in
    let h = c.in-Err-tags_of.ensures.err in
    refused h.0 (lacks_tag (string_bytes c.in-Ok.read.0) (string_bytes c.in-Ok.read.1) c.in-Ok.ensures.ok
    (lacks_as c.as_str.ensures.value c.as_slice.ensures.value h.1))
    (subst (λ e. Says (of e) (of c.tags_of.new.errors) h.0) c.in-Ok.ensures.quiet h.2)
    (rests _)

pub returns-in-Err-tags_of-2 : goal.returns-in-Err-tags_of-2
returns-in-Err-tags_of-2 g c =
    let of = held g.E.Sink.emitted g.E.Sink.room in
    let h = c.in-Err-tags_of-2.ensures.err in
    refused h.0 (lacks_path (string_bytes c.in-Ok.read.0) (string_bytes c.in-Ok.read.1) c.in-Ok.ensures.ok
    (lacks_as c.as_str-2.ensures.value c.as_slice-2.ensures.value h.1))
    (subst (λ e. Says (of e) (of c.tags_of-2.new.errors) h.0) (c.in-Ok-tags_of.ensures.quiet ∙ c.in-Ok.ensures.quiet) h.2)
    (rests _)

pub returns-in-Err-OutOfMemory : goal.returns-in-Err-OutOfMemory
returns-in-Err-OutOfMemory g c =
    let of = held g.E.Sink.emitted g.E.Sink.room in
    refused no_memory_line (memory_ended c.no_memory.ensures.status refl)
    (subst (λ e. Says (of e) (of c.no_memory.new.errors) no_memory_line)
    (c.in-Ok-tags_of-2.ensures.quiet ∙ c.in-Ok-tags_of.ensures.quiet ∙ c.in-Ok.ensures.quiet) c.no_memory.ensures.reported)
    (rests _)

pub returns-in-Err-BadLine : goal.returns-in-Err-BadLine
returns-in-Err-BadLine g c =
    let of = held g.E.Sink.emitted g.E.Sink.room in
    let words = codes "a table of secrets names tags alone, as `540001 Own Secret`" in
    let n = c.in-Err-BadLine.field-0-0 in
    let bad = subst (λ t. HasBadLine t (string_bytes c.in-Ok.read.1) n) c.as_str-3.ensures.value
    (subst (λ s. HasBadLine c.as_str-3.result.now s n) c.as_str-4.ensures.value (c.in-Err-BadLine.ensures.bad n c.in-Err-BadLine.field-0-is)) in
    let own = own_secrets c.in-Ok.ensures.ok bad in
    let errors = of c.report_words.new.errors in
    refused _ (bad_names (string_bytes c.in-Ok.read.0) (string_bytes c.in-Ok.read.1) own.0 n c.in-Ok.ensures.ok own.1 own.2 refl refl)
    (subst (λ e. Says (of e) errors (line_of own.0.now words)) (c.in-Ok-tags_of-2.ensures.quiet ∙ c.in-Ok-tags_of.ensures.quiet ∙ c.in-Ok.ensures.quiet)
    (subst (λ w. Says (of c.tags_of-2.new.errors) errors (line_of w words)) (c.word_of.ensures ∙ ap word_of own.1)
    c.report_words.ensures))
    (rests _)
