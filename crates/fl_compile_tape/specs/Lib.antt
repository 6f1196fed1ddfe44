-- What the public promises rest on: packed tapes of payloads (TapeLaws), and the bytes of fragments (Frags).
pub mod TapeLaws
pub mod Frags
