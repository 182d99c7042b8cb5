-- The needs of `cut`.
use Rattle.std.proofs.Common.{◌-◌, length, take, drop, ◌∙◌}
use Rattle.lines.proofs.Cutting.{fields_body, cut_off}
use Rattle.lines.proofs.fields.cut.Goals as goal

pub returns-clause-parts : goal.returns-clause-parts
returns-clause-parts c =
    let body = take (length c.args.rest.now - 1) (drop 1 c.args.rest.now) in
    fields_body c.args.rest.now c.requires
    ∙ cut_off body c.split_at.result.0.now c.split_at.result.1.now c.find.result c.unwrap_or.result c.find.ensures c.unwrap_or.ensures c.split_at.ensures.front c.split_at.ensures.back
