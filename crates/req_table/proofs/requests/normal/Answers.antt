use Rattle.req_table.proofs.Waved.{form_request, made_meaning}
use Rattle.req_table.proofs.requests.normal.Goals as goal

pub request-requires : goal.request-requires
request-requires c = form_request c.args.op c.args.f c.args.g c.form-op.ensures c.requires

pub returns-clause-means : goal.returns-clause-means
returns-clause-means c S x = made_meaning S c.args.op c.args.f c.args.g c.form-op.ensures c.request.ensures x
