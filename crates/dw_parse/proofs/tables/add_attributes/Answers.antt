use Rattle.std.proofs.Common.{◌∙◌, ◌++◌, ap}
use Rattle.std.proofs.lemmas.List.{flat_map_more}
use Rattle.dw_parse.specs.Tables.{style_said, dist_keys_of, sort_keys_of, names_of}
use Rattle.dw_parse.proofs.TableLemmas.{one_more}
use Rattle.dw_parse.proofs.tables.add_attributes.Goals as goal

pub loop-attribute-preserved : goal.loop-attribute-preserved
loop-attribute-preserved c =
    let xs = c.loop-attribute.yielded in
    let x = c.in-Some.attribute in
    let so_far = c.loop-attribute.invariant in
    let added = c.in_ok-add_attribute.ensures in
    record {
      name = added.name ∙ so_far.name;
      columns = added.columns ∙ so_far.columns;
      style = one_more style_said xs x c.args.spec.now.style c.loop-attribute.spec.style c.add_attribute.new.spec.style so_far.style added.style;
      dist_keys = added.dist_keys ∙ ap (λ keys. keys ++ dist_keys_of x) so_far.dist_keys ∙ flat_map_more dist_keys_of c.args.spec.now.dist_keys xs x;
      sort_keys = added.sort_keys ∙ ap (λ keys. keys ++ sort_keys_of x) so_far.sort_keys ∙ flat_map_more sort_keys_of c.args.spec.now.sort_keys xs x;
      named = added.named ∙ ap (λ names. names ++ names_of x) so_far.named ∙ flat_map_more names_of c.args.spec.now.named xs x;
    }
