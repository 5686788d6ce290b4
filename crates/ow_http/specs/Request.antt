-- What a request says.
use Rattle.ow_http.specs.declared.request.Request.{Request}
use Rattle.ow_http.specs.Parts.{Parts}

abbrev pub parts_of : Request → Parts
parts_of r = record {
  route = r.route;
  method = r.method;
  key = r.key;
  query = r.query;
  raw_query = r.raw_query;
  headers = r.headers;
  body = r.body;
  size = r.size;
  close = r.close;
}
