-- What the public promises rest on. Who reads only what is promised reads `has_few_numbers` (NumberPlaces), `IsFragOfTape`, `Encodes`,
-- `Decodes` and the law (Codecs): the places join the making of a codec to its two calls, and need no trust.
pub mod NumberPlaces
pub mod Codecs
-- Working files: how the code goes over words, and over types.
pub mod Words
pub mod Placing
