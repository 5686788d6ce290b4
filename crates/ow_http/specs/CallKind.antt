-- What a route and a method call for.
use Rattle.std.specs.Prelude.{Bool, true, false}
use Rattle.ow_entity.specs.declared.kinds.EntityKind.{EntityKind}
use Rattle.ow_entity.specs.declared.kinds.EntityKind.TheVariants as kinds
use Rattle.ow_http.specs.declared.call_kind.CallKind.{CallKind}
use Rattle.ow_http.specs.declared.call_kind.CallKind.TheVariants.{ListNamespaces, ListEntities, GetEntity, PutEntity, DeleteEntity, Invoke, Fire, SetRule, ListActivations, GetActivation, Web, NotTaken}
use Rattle.ow_http.specs.declared.route.Route.{Route}
use Rattle.ow_http.specs.declared.route.Route.TheVariants as route
use Rattle.ow_http.specs.declared.verb.Verb.{Verb}
use Rattle.ow_http.specs.declared.verb.Verb.TheVariants.{Get, Put, Post, Delete}

-- what takes GET alone
abbrev pub read_alone : Verb → CallKind → CallKind
read_alone Get kind = kind
read_alone method kind = NotTaken

-- an entity is got, put and deleted; an action is invoked, a trigger fired and a rule set by POST
abbrev pub entity_kind : EntityKind → Verb → CallKind
entity_kind kind Get = GetEntity kind
entity_kind kind Put = PutEntity kind
entity_kind kind Delete = DeleteEntity kind
entity_kind kinds.Action Post = Invoke
entity_kind kinds.Trigger Post = Fire
entity_kind kinds.Rule Post = SetRule
entity_kind kind method = NotTaken

-- a web action takes each method that has a verb
abbrev pub kind_of : Route → Verb → CallKind
kind_of route.Namespaces method = read_alone method ListNamespaces
kind_of (route.List namespace kind) method = read_alone method (ListEntities kind)
kind_of (route.Entity namespace kind inside name) method = entity_kind kind method
kind_of (route.Activations namespace) method = read_alone method ListActivations
kind_of (route.Activation namespace id part) method = read_alone method (GetActivation part)
kind_of (route.Web namespace inside name rest) method = Web

abbrev pub is_taken : CallKind → Bool
is_taken NotTaken = false
is_taken kind = true

-- whether the route takes requests of this method
abbrev pub takes : Route → Verb → Bool
takes r method = is_taken (kind_of r method)
