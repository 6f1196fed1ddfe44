-- The names of elements and attributes.
use Rattle.std.specs.Prelude.{ℕ, List, codes}
use Rattle.flounder_svg.specs.declared.names.Tag.{Tag}
use Rattle.flounder_svg.specs.declared.names.Tag.TheVariants.{Svg, Title, Desc, Style, Defs, Marker, Group, Rect, Line, Path, Circle, Text}
use Rattle.flounder_svg.specs.declared.names.Attribute.{Attribute}
use Rattle.flounder_svg.specs.declared.names.Attribute.TheVariants.{Namespace, Id, Class, Role, AriaLabel, AriaLabelledBy, X, Y, X1, Y1, X2, Y2, Width, Height}
use Rattle.flounder_svg.specs.declared.names.Attribute.TheVariants.{CenterX, CenterY, Radius, D, ViewBox, RefX, RefY, MarkerWidth, MarkerHeight, Orient}

abbrev pub tag_name : Tag → List ℕ
tag_name Svg = codes "svg"
tag_name Title = codes "title"
tag_name Desc = codes "desc"
tag_name Style = codes "style"
tag_name Defs = codes "defs"
tag_name Marker = codes "marker"
tag_name Group = codes "g"
tag_name Rect = codes "rect"
tag_name Line = codes "line"
tag_name Path = codes "path"
tag_name Circle = codes "circle"
tag_name Text = codes "text"

abbrev pub attribute_name : Attribute → List ℕ
attribute_name Namespace = codes "xmlns"
attribute_name Id = codes "id"
attribute_name Class = codes "class"
attribute_name Role = codes "role"
attribute_name AriaLabel = codes "aria-label"
attribute_name AriaLabelledBy = codes "aria-labelledby"
attribute_name X = codes "x"
attribute_name Y = codes "y"
attribute_name X1 = codes "x1"
attribute_name Y1 = codes "y1"
attribute_name X2 = codes "x2"
attribute_name Y2 = codes "y2"
attribute_name Width = codes "width"
attribute_name Height = codes "height"
attribute_name CenterX = codes "cx"
attribute_name CenterY = codes "cy"
attribute_name Radius = codes "r"
attribute_name D = codes "d"
attribute_name ViewBox = codes "viewBox"
attribute_name RefX = codes "refX"
attribute_name RefY = codes "refY"
attribute_name MarkerWidth = codes "markerWidth"
attribute_name MarkerHeight = codes "markerHeight"
attribute_name Orient = codes "orient"
