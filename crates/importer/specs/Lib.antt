-- What the private functions of importer answer. What `import` promises stands in listing.
pub mod Inside
