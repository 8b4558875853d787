-- The value of a property that is to be set.
use Rattle.cpg_schema.specs.Properties.{Property}
use Rattle.graph_store.specs.declared.delta.Value.{Value}
use Rattle.graph_store.specs.declared.delta.Value.TheVariants as value

abbrev pub property_of : Value → Property
property_of (value.Text text) = Property.text text
property_of (value.Number number) = Property.number number
